-- All that there is of a sum stands in the target: rounded, it is the answer. Assumes nothing.
use mathlib.Core.Path.{◌≡◌, refl, sym, ap, ◌∙◌}
use mathlib.Core.Bool.{Bool, true, false, ◌||◌, true≢false}
use mathlib.Core.List.{List}
use Prim.Native.Nat.{ℕ, ◌+◌, ◌-◌, ◌*◌, ◌^◌, ◌≤◌, ◌<◌}
use native.Mathlib.Nat.{mul_assoc}
use native.Mathlib.Omega.{arith}
use borrow.Author.Tests.{lt-ltb, le-leb, eq-eqb}
use lib.Dec.{ltb}
use lib.ListN.{length, get_or}
use lib.Pow.{pow-add}
use Rattle.limb.specs.Carry.{bit}
use Rattle.numbers.specs.Limits.{least_precision, most_precision, most_exponent, limbs_for}
use Rattle.numbers.specs.Operand.{Operand}
use Rattle.rounding.specs.Mode.{way}
use Rattle.rounding.specs.declared.Mode.{Mode}
use Rattle.rounding.specs.Answer.{rounded}
use Rattle.rounding.specs.Sum.{add}
use Rattle.place.specs.declared.Placed.{Placed}
use Rattle.place.specs.Placed.{run_number, run_answer, run_rule, placed_of, limbs_after}
use Rattle.place.specs.Rounded.{rounded_placed, rounded_limbs}
use Rattle.place.proofs.Answer.{placed_passed, limbs_passed}
use Rattle.place.proofs.Rules.{rule_none}
use Rattle.bridge.specs.Verdict.{Ordered, read_sum}
use Rattle.bridge.proofs.Answers.{sum_pos}
use Rattle.bridge.proofs.Covered.{columns_above}
use Rattle.bridge.proofs.Refine.{scaled_up}
use Rattle.descent.proofs.JudgingRange.{digits_some}
use Rattle.descent.proofs.RegularEnd.{deep_enough, rounded_signed}
use Rattle.wide.specs.Attempted.{Attempted}
use Rattle.aligned.specs.Aligned.{Aligned, Standing}
use Rattle.aligned.proofs.AllRead.{some, limbs_few, leads_all, answer, covered_told}

module _ (mode : Mode) (p : ℕ) (x y : Operand) (t : List ℕ) (carry : Bool) (z top : ℕ) (s : Standing p x y t carry z top) where
  abbrev o : Mode
  o = mode

  abbrev n : ℕ
  n = length t

  abbrev a : Aligned x y n
  a = s.covered.aligned

  abbrev d : Ordered x y
  d = s.covered.course.ordered

  abbrev unit : ℕ
  unit = top - 64 * (n + z + 1)

  abbrev D : ℕ
  D = read_sum x y n

  P : 0 < p
  P = digits_some p n s.covered.room

  above : 64 * (n + z + 1) + 1 ≤ x.exponent
  above = columns_above x a.first a.first_regular (n + z + 1) (omega (arith, limbs_few o p x y n z top s.covered, s.covered.within, deep_enough))

  unit_room : 64 * (n + z + 1) ≤ top
  unit_room = omega (arith, above, s.covered.top_is)

  fit : run_rule p carry t unit ≡ 0
  fit =
      sym (rule_none p carry t unit (rw (le-leb least_precision p s.covered.room.least, le-leb p most_precision s.covered.room.most) refl) (eq-eqb n (limbs_for p) s.covered.room.count) (rw (lt-ltb 0 unit positive, le-leb unit (2 * most_exponent) small) refl) (leading carry refl))
    where
      positive : 0 < unit
      positive = omega (arith, above, s.covered.top_is)

      small : unit ≤ 2 * most_exponent
      small = omega (arith, (a.first.regular a.first_regular).most, s.covered.top_is)

      leading : (c : Bool) → carry ≡ c → (c || ltb 0 (get_or t (n - 1) 0)) ≡ true
      leading true e = refl
      leading false e = lt-ltb 0 (get_or t (n - 1) 0) (s.led e)

  pub asks : (64 * (n + z + 1) ≤ top) × (run_rule p carry t unit ≡ 0)
  asks = (unit_room, fit)

  run_is : run_number carry t 0 false ≡ 2 * (D * 2 ^ (64 * (z + 1))) + bit false
  unfolding run_number
  run_is =
      ap (λ (m : ℕ). 2 * (m * 2 ^ 64 + 0) + bit false) s.value
      ∙ flat (D * 2 ^ (64 * z) * 2 ^ 64) (bit false)
      ∙ ap (λ (m : ℕ). 2 * m + bit false) (mul_assoc D (2 ^ (64 * z)) (2 ^ 64) ∙ ap (λ (m : ℕ). D * m) (sym (pow-add 2 (64 * z) 64) ∙ ap (λ (m : ℕ). 2 ^ m) (next z)))
    where
      flat : (m b : ℕ) → 2 * (m + 0) + b ≡ 2 * m + b
      flat m b = omega arith

      next : (m : ℕ) → 64 * m + 64 ≡ 64 * (m + 1)
      next m = omega arith

  sum_is : add o p x y ≡ rounded (way o x.negative) p (unit - 1) x.negative (run_number carry t 0 false)
  sum_is =
      answer o p x y n z top s.covered
      ∙ sym (scaled_up (way o x.negative) p P x.negative (x.exponent - 64 * n) D (z + 1) false (place_room x.exponent n above) (sum_pos o p P x y n d (some o p x y n z top s.covered) (leads_all o p x y n z top s.covered)) (λ e. absurd (true≢false (sym e))))
      ∙ ap (λ (m : ℕ). rounded (way o x.negative) p (m - 1) x.negative (2 * (D * 2 ^ (64 * (z + 1))) + bit false)) (place x.exponent n ∙ ap (λ (m : ℕ). m - 64 * (n + z + 1)) (sym s.covered.top_is))
      ∙ ap (rounded (way o x.negative) p (unit - 1) x.negative) (sym run_is)
    where
      place_room : (e m : ℕ) → 64 * (m + z + 1) + 1 ≤ e → 64 * (z + 1) + 1 ≤ e - 64 * m
      place_room e m h = omega arith

      place : (e m : ℕ) → e - 64 * m - 64 * (z + 1) ≡ e - 64 * (m + z + 1)
      place e m = omega arith

  module _ (negative : Bool) (sign : negative ≡ x.negative) where
    rounds : run_answer mode p negative unit (run_number carry t 0 false) ≡ add o p x y
    unfolding run_answer
    rounds = rw sign (sym sum_is)

    pub told : {exit : List ℕ} {placed : Placed} → placed ≡ rounded_placed mode p negative unit carry t 0 false → exit ≡ rounded_limbs mode p negative unit carry t 0 false → Attempted o p x y exit negative placed n n n
    told {exit} {placed} e f =
        covered_told o p x y n z top s.covered
        (record { told = e ∙ placed_passed mode p negative unit carry t 0 false fit ∙ ap placed_of rounds; limbs = f ∙ limbs_passed mode p negative unit carry t 0 false fit ∙ ap (limbs_after p) rounds })
        (rw (sign, sum_is) (rounded_signed _ _ _ _ _))
