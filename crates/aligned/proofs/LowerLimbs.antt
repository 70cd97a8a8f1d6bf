-- Operands of two limbs each that differ in the lower ones alone: one column fixes nothing, two are all, and what is left of them is rounded to their sum. Assumes nothing.
use mathlib.Core.Path.{◌≡◌, refl, sym, ap, ◌∙◌, subst}
use mathlib.Core.Bool.{Bool, true, false, not, cond, beq, true≢false}
use mathlib.Core.List.{List, [], ◌∷◌}
use Prim.Native.Nat.{ℕ, ◌+◌, ◌-◌, ◌*◌, ◌^◌, ◌≤◌, ◌<◌}
use native.Mathlib.Nat.{pow-zero}
use native.Mathlib.Omega.{arith}
use borrow.Author.Tests.{lt-ltb, le-leb, eq-eqb, ltb-true, ltb-false}
use lib.Dec.{ltb}
use lib.IntN.{pos}
use lib.ListN.{length, take, drop, get_or, set}
use Rattle.limb.specs.Value.{value_of}
use Rattle.limb.specs.Carry.{bit}
use Rattle.limb.proofs.Value.{value_take, value_nil, one_written}
use Rattle.numbers.specs.Limits.{least_precision, most_precision, most_exponent, limbs_for}
use Rattle.numbers.specs.Operand.{Operand}
use Rattle.rounding.specs.Mode.{way}
use Rattle.rounding.specs.declared.Mode.{Mode}
use Rattle.rounding.specs.Answer.{rounded}
use Rattle.rounding.specs.Sum.{add, zero_sign}
use Rattle.decide.specs.Decide.{decide_at}
use Rattle.kept.proofs.OneLimb.{one_value}
use Rattle.place.specs.declared.Placed.{Placed}
use Rattle.place.specs.Placed.{run_number, run_answer, run_rule, placed_of, limbs_after}
use Rattle.place.specs.Rounded.{rounded_placed, rounded_limbs}
use Rattle.place.proofs.Answer.{placed_passed, limbs_passed}
use Rattle.place.proofs.Rules.{rule_none}
use Rattle.bridge.specs.Verdict.{read_sum}
use Rattle.bridge.proofs.Covered.{columns_above}
use Rattle.bridge.proofs.Refine.{scaled_up}
use Rattle.checks.specs.Room.{Room}
use Rattle.descent.specs.Course.{Course}
use Rattle.descent.proofs.AtOnce.{some_of}
use Rattle.descent.proofs.GoingDown.{open_before}
use Rattle.descent.proofs.JudgingRange.{digits_some}
use Rattle.descent.proofs.Handed.{beq_turned}
use Rattle.descent.proofs.RegularEnd.{deep_enough, rounded_signed}
use Rattle.wide.specs.Attempted.{Attempted}
use Rattle.wide.proofs.InOrder.{attempted_turned}
use Rattle.aligned.specs.Aligned.{Aligned, Cancelling}
use Rattle.aligned.proofs.AllRead.{all_answer, all_told}
use Rattle.aligned.proofs.Parting.{Parted, alike_more, alike_none, course_parted, difference_below}
use Rattle.aligned.proofs.Cancels.{cancelled_told, sign_of}
use Rattle.aligned.proofs.Stands.{aligned_turned, sign_told}
use Rattle.aligned.specs.Lower.{Lower, Lowered}

-- ---- the limbs

lowest : (l : List ℕ) → value_of (take 1 l) ≡ get_or l 0 0
lowest l = value_take (2 ^ 64) 0 l ∙ rw (value_nil, pow-zero) (flat (get_or l 0 0))
  where
    flat : (m : ℕ) → 0 + 1 * m ≡ m
    flat m = omega arith

module _ (x y : Operand) (u v top : ℕ) (l : Lower x y u v top) where
  abbrev a : Aligned x y 2
  a = l.aligned

  upper : value_of (drop 1 y.limbs) ≡ value_of (drop 1 x.limbs)
  upper = alike_more 2 0 x.limbs y.limbs (omega arith) l.level (rw a.first_limbs at (alike_none x.limbs y.limbs (a.second_limbs ∙ sym a.first_limbs)))

  parted : v < u → Parted x y 2 1
  parted h = record { aligned = a; unlike = l.unlike; within = omega arith; level = upper; larger = rw (← l.first_low, ← l.second_low) h }

  difference : v < u → read_sum x y 2 ≡ u - v
  difference h = difference_below x y 2 1 (parted h) (omega arith) ∙ rw (lowest x.limbs, lowest y.limbs, ← l.first_low, ← l.second_low) refl

  cancelling : u ≡ v → Cancelling x y 2
  cancelling e = record { aligned = a; unlike = l.unlike; level = alike_more 2 1 x.limbs y.limbs (omega arith) (sym l.first_low ∙ e ∙ l.second_low) upper }

  lower_turned : Lower y x v u top
  lower_turned = record { aligned = aligned_turned x y 2 a; unlike = beq_turned y.negative x.negative ∙ l.unlike; level = sym l.level; first_low = l.second_low; second_low = l.first_low; top_is = l.top_is ∙ sym a.even }

  other_sign : y.negative ≡ not x.negative
  other_sign = go x.negative y.negative l.unlike
    where
      go : (b c : Bool) → beq b c ≡ false → c ≡ not b
      go true true e = absurd (true≢false e)
      go true false e = refl
      go false true e = refl
      go false false e = absurd (true≢false e)

  -- there is a place for one column more below the second
  above : 64 * 3 + 1 ≤ x.exponent
  above = columns_above x a.first a.first_regular 3 (omega (arith, deep_enough))

  pub unit_room : 192 ≤ top
  unit_room = omega (arith, above, l.top_is)

  pub fit : (p d : ℕ) → Room p 1 → 0 < d → run_rule p false (d ∷ []) (top - 192) ≡ 0
  fit p d room some =
      sym (rule_none p false (d ∷ []) (top - 192) (rw (le-leb least_precision p room.least, le-leb p most_precision room.most) refl) (eq-eqb 1 (limbs_for p) room.count) (rw (lt-ltb 0 (top - 192) positive, le-leb (top - 192) (2 * most_exponent) small) refl) (lt-ltb 0 d some))
    where
      positive : 0 < top - 192
      positive = omega (arith, above, l.top_is)

      small : top - 192 ≤ 2 * most_exponent
      small = omega (arith, (a.first.regular a.first_regular).most, l.top_is)

-- ---- the larger one first

module _ (mode : Mode) (p : ℕ) (room : Room p 1) (x y : Operand) (u v top : ℕ) (l : Lower x y u v top) (less : v < u) where
  abbrev o : Mode
  o = mode

  abbrev t : List ℕ
  t = (u - v) ∷ []

  abbrev D : ℕ
  D = read_sum x y 2

  P : 0 < p
  P = digits_some p 1 room

  course : Course x y 1
  course = course_parted x y 2 1 (parted x y u v top l less) (omega arith)

  open_first : decide_at o p x y 1 ≡ false
  open_first = open_before o p x y 1 course (0 ∷ []) room (omega arith)

  some : 0 < D
  some = omega (arith, difference x y u v top l less)

  run_is : run_number false t 0 false ≡ 2 * (D * 2 ^ (64 * 1)) + bit false
  unfolding run_number bit
  run_is = rw (one_value (u - v), difference x y u v top l less) (flat (2 ^ 64) (u - v))
    where
      flat : (B d : ℕ) → 2 * ((0 * B + d) * B + 0) + 0 ≡ 2 * (d * B) + 0
      flat B d = omega arith

  sum_is : add o p x y ≡ rounded (way o x.negative) p (top - 192 - 1) x.negative (run_number false t 0 false)
  sum_is =
      all_answer o p P x y 2 1 l.aligned course (omega arith) (omega arith)
      ∙ sym (scaled_up (way o x.negative) p P x.negative (x.exponent - 64 * 2) D 1 false (place_room x.exponent (above x y u v top l)) some (λ e. absurd (true≢false (sym e))))
      ∙ ap (λ (m : ℕ). rounded (way o x.negative) p (m - 1) x.negative (2 * (D * 2 ^ (64 * 1)) + bit false)) (place x.exponent ∙ ap (λ (m : ℕ). m - 192) (sym l.top_is))
      ∙ ap (rounded (way o x.negative) p (top - 192 - 1) x.negative) (sym run_is)
    where
      place_room : (e : ℕ) → 64 * 3 + 1 ≤ e → 64 * 1 + 1 ≤ e - 64 * 2
      place_room e h = omega arith

      place : (e : ℕ) → e - 64 * 2 - 64 * 1 ≡ e - 192
      place e = omega arith

  module _ (negative : Bool) (sign : negative ≡ x.negative) where
    rounds : run_answer mode p negative (top - 192) (run_number false t 0 false) ≡ add o p x y
    unfolding run_answer
    rounds = rw sign (sym sum_is)

    larger_told : {exit : List ℕ} {placed : Placed} → placed ≡ rounded_placed mode p negative (top - 192) false t 0 false → exit ≡ rounded_limbs mode p negative (top - 192) false t 0 false → Attempted o p x y exit negative placed 2 2 2
    larger_told e f =
        let fits = fit x y u v top l p (u - v) room (omega arith) in
        all_told o p P x y 2 1 l.aligned course (omega arith) (omega arith) (λ h. open_first)
        (record { told = e ∙ placed_passed mode p negative (top - 192) false t 0 false fits ∙ ap placed_of rounds; limbs = f ∙ limbs_passed mode p negative (top - 192) false t 0 false fits ∙ ap (limbs_after p) rounds })
        (rw (sign, sum_is) (rounded_signed _ _ _ _ _))

-- ---- as the code finds them

in_order : (s : Bool) (x y : Operand) (u v top : ℕ) → Lower x y u v top → {i j : ℕ} → i ≡ cond s v u → j ≡ cond s u v → Lower (cond s y x) (cond s x y) i j top
in_order true x y u v top l e f = rw (e, f) (lower_turned x y u v top l)
in_order false x y u v top l e f = rw (e, f) l

as_they_came : (s : Bool) (o : Mode) (p : ℕ) → 0 < p → (x y : Operand) → Aligned x y 2 → {exit : List ℕ} {negative : Bool} {placed : Placed} {k : ℕ} → Attempted o p (cond s y x) (cond s x y) exit negative placed k k k → Attempted o p x y exit negative placed k k k
as_they_came true o p P x y a {exit} {negative} {placed} {k} t = attempted_turned o p P x y a.first_regular a.second_regular exit negative placed k k k t
as_they_came false o p P x y a t = t

-- the larger of two, and the other
pub apart : (u v : ℕ) (s : Bool) {i j : ℕ} → s ≡ ltb u v → i ≡ cond s v u → j ≡ cond s u v → j ≤ i
apart u v true e f g = omega (arith, ltb-true u v (sym e))
apart u v false e f g = omega (arith, ltb-false u v (sym e))

nothing_left : (u v : ℕ) (s : Bool) {i j : ℕ} → s ≡ ltb u v → i ≡ cond s v u → j ≡ cond s u v → i - j ≡ 0 → u ≡ v
nothing_left u v true e f g h = absurd (omega (arith, ltb-true u v (sym e)))
nothing_left u v false e f g h = omega (arith, ltb-false u v (sym e))

module _ (mode : Mode) (p top u v : ℕ) (t : List ℕ) (room : Room p (length t)) (one : length t ≡ 1) (s : Bool) (s_is : s ≡ ltb u v) {i j : ℕ} (i_is : i ≡ cond s v u) (j_is : j ≡ cond s u v) where
  abbrev m : Mode
  m = mode

  one_room : Room p 1
  one_room = subst (Room p) one room

  after : set t 0 (i - j) ≡ (i - j) ∷ []
  after = one_written t (i - j) one

  pub lower_fit : Lowered u v top → (i - j ≡ 0 → ⊥) → run_rule p false (set t 0 (i - j)) (top - 192) ≡ 0
  lower_fit h some = rw after (fit h.first h.second u v top h.lower p (i - j) one_room (some_of (i - j) some))

  module _ (negative : Bool) (x y : Operand) (l : Lower x y u v top) (sign : negative ≡ x.negative) where
    pub zero_told : i - j ≡ 0 → {told : Bool} {placed : Placed} → told ≡ zero_sign m negative (not negative) → placed ≡ record { rule = 0; exponent = 0; ternary = pos 0 } → Attempted m p x y (set t 0 (i - j)) told placed 2 2 2
    zero_told e f g =
        cancelled_told m p 1 2 x y one_room (omega arith) (cancelling x y u v top l (nothing_left u v s s_is i_is j_is e))
        (f ∙ sign_of m sign (ap not sign ∙ sym (other_sign x y u v top l))) g (after ∙ ap (λ (d : ℕ). d ∷ []) e)

    -- the larger of the two has the sign of the difference
    pub difference_told : (i - j ≡ 0 → ⊥) → {exit : List ℕ} {placed : Placed} → placed ≡ rounded_placed mode p (not (beq negative s)) (top - 192) false (set t 0 (i - j)) 0 false → exit ≡ rounded_limbs mode p (not (beq negative s)) (top - 192) false (set t 0 (i - j)) 0 false
        → Attempted m p x y exit (not (beq negative s)) placed 2 2 2
    difference_told some e f =
        as_they_came s m p (digits_some p 1 one_room) x y l.aligned
        (larger_told mode p one_room (cond s y x) (cond s x y) i j top (in_order s x y u v top l i_is j_is) (strict (some_of (i - j) some)) (not (beq negative s)) (rw sign (sign_told x y l.unlike s)) (rw after at e) (rw after at f))
      where
        strict : 0 < i - j → j < i
        strict h = omega arith
