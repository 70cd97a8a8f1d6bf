-- A regular operand beside a zero: its first column is its top limb, and where it fixes the answer, the limb is rounded to it. Assumes nothing.
use mathlib.Core.Path.{◌≡◌, refl, sym, ap, ◌∙◌}
use mathlib.Core.Logic.{inl, inr}
use mathlib.Core.Bool.{Bool, true, false, not, ◌||◌, true≢false}
use mathlib.Core.List.{List, [], ◌∷◌}
use Prim.Native.Nat.{ℕ, ◌+◌, ◌-◌, ◌*◌, ◌/◌, ◌%◌, ◌^◌, ◌≤◌, ◌<◌}
use native.Mathlib.Nat.{div-add-mod, add-mul-mod_self_left}
use native.Mathlib.Omega.{arith}
use borrow.Author.Tests.{leb-false, lt-ltb, eq-eqb}
use lib.Dec.{leb, eqb}
use lib.Ieee.{size}
use lib.Pow.{pow-add}
use Rattle.limb.specs.Carry.{bit}
use Rattle.numbers.specs.Limits.{counted, least_precision}
use Rattle.numbers.specs.Operand.{Operand, WellFormed}
use Rattle.numbers.proofs.Limits.{two_digits}
use Rattle.rounding.specs.Mode.{way}
use Rattle.rounding.specs.declared.Mode.{Mode}
use Rattle.rounding.specs.Answer.{rounded}
use Rattle.rounding.specs.Sum.{add}
use Rattle.rounding.proofs.Order.{le_or_lt}
use Rattle.depth.specs.Columns.{top_exponent, limbs_used}
use Rattle.decide.specs.Decide.{decide_at}
use Rattle.checks.specs.declared.Number.{Number}
use Rattle.checks.specs.Number.{operand_of}
use Rattle.place.specs.declared.Placed.{Placed}
use Rattle.place.specs.Placed.{run_number, run_rule}
use Rattle.place.specs.Rounded.{rounded_placed, rounded_limbs}
use Rattle.columns.specs.Column.{read_to}
use Rattle.limb.proofs.Sizes.{size_is}
use Rattle.settle.specs.Rows.{row_of}
use Rattle.settle.specs.declared.rows.Row.TheVariants.{Exact, Plus}
use Rattle.bridge.specs.Verdict.{pair_of, Ordered, Leads, read_sum}
use Rattle.narrow.specs.declared.seeing.Seen.{Seen}
use Rattle.narrow.specs.Sighting.{top_limb, Told}
use Rattle.narrow.specs.Looked.{Looked}
use Rattle.narrow.specs.Lone.{Beside, Lone, Beyond}
use Rattle.narrow.proofs.Answered.{exact_says, unread_says}
use Rattle.narrow.proofs.Settled.{run_plain}
use Rattle.narrow.proofs.Passed.{passes, run_told}
use Rattle.narrow.proofs.Tops.{top_first, top_led}
use Rattle.narrow.proofs.InOrder.{depth_one, first_used}

-- ---- the pair of an operand and a zero

module _ (x z : Operand) (zero : z.is_zero ≡ true) where
  like : (pair_of x z).same ≡ true
  unfolding pair_of
  like = rw zero refl

  whole_row : leb x.precision 64 ≡ true → row_of (pair_of x z) 1 ≡ Exact
  unfolding row_of pair_of
  whole_row h = rw (zero, h) refl

  long_row : leb x.precision 64 ≡ false → row_of (pair_of x z) 1 ≡ Plus false false true
  unfolding row_of pair_of
  long_row h = rw (zero, h, lt-ltb 64 x.precision (leb-false x.precision 64 h)) refl

  read_alone : read_sum x z 1 ≡ read_to 1 0 x.limbs
  read_alone =
      let e : read_sum x z 1 ≡ read_to 1 0 x.limbs + 0 = unfold read_sum in rw (like, zero) in
      e ∙ flat (read_to 1 0 x.limbs)
    where
      flat : (n : ℕ) → n + 0 ≡ n
      flat n = omega arith

-- ---- the digits below a half

-- a limb moved up by p digits and one more loses those above
pub rest_some : (p u : ℕ) → p ≤ 62 → not (eqb (u * 2 ^ (p + 1) % 2 ^ 64) 0) ≡ true → 1 ≤ u % 2 ^ (64 - p - 1)
rest_some p u h n = elim (le_or_lt 1 (u % 2 ^ (64 - p - 1))) [ inl k ↦ k | inr k ↦ absurd (true≢false (sym n ∙ ap not (eq-eqb _ 0 (gone (omega arith))))) ]
  where
    base : 2 ^ 64 ≡ 2 ^ (64 - p - 1) * 2 ^ (p + 1)
    base = ap (λ (m : ℕ). 2 ^ m) (let z : 64 ≡ 64 - p - 1 + (p + 1) = omega arith in z) ∙ pow-add 2 (64 - p - 1) (p + 1)

    spread : (u q E F B : ℕ) → u ≡ E * q → B ≡ E * F → u * F ≡ 0 + B * q
    spread u q E F B a b = rw (a, b) (omega arith)

    gone : u % 2 ^ (64 - p - 1) ≡ 0 → u * 2 ^ (p + 1) % 2 ^ 64 ≡ 0
    gone z =
        let e : u ≡ 2 ^ (64 - p - 1) * (u / 2 ^ (64 - p - 1)) = sym (div-add-mod u (2 ^ (64 - p - 1))) ∙ rw z (omega arith) in
        ap (λ (m : ℕ). m % 2 ^ 64) (spread u (u / 2 ^ (64 - p - 1)) (2 ^ (64 - p - 1)) (2 ^ (p + 1)) (2 ^ 64) e base) ∙ add-mul-mod_self_left 0 (2 ^ 64) (u / 2 ^ (64 - p - 1))

-- ---- what the first column says

module _ (p top u : ℕ) (l : Lone p top u) where
  positive : 0 < p
  positive = omega (arith, two_digits, l.least)

  some : false ≡ false → 0 < u
  some e = omega (arith, l.led)

  pub alone_passes : run_rule p false (u ∷ []) (top - 128) ≡ 0
  alone_passes = passes p l.least l.most top l.low l.high false u some

  module _ (first : ℕ) (rest : Bool) (lt : u < 2 ^ 64) (i : rest ≡ true → 1 ≤ u % 2 ^ (64 - p - 1)) (fixed : (leb first 64 || rest) ≡ true) where
    beyond : rest ≡ true → Beyond p u
    beyond e = let n : size u ≡ 64 = size_is u 63 l.led lt in record { longer = rw n (omega (arith, l.most)); some = rw n (i e) }

    says : (o : Mode) (x z : Operand) → Beside x z first top u
        → (decide_at o p x z 1 ≡ true) × (add o p x z ≡ rounded (way o x.negative) p (x.exponent - 128 - 1) x.negative (run_number false (u ∷ []) 0 false))
    says o x z b = rw (run_plain false u false u (unfold bit in omega arith), ← D) (go (leb first 64) refl)
      where
        d : Ordered x z
        d = record { first = b.formed; second = b.other; regular = b.regular; order = λ e. absurd (true≢false (sym b.zero ∙ e)) }

        lead : Leads x z 1
        lead e = absurd (true≢false (sym (like x z b.zero) ∙ e))

        D : read_sum x z 1 ≡ u
        D = read_alone x z b.zero ∙ top_first x b.formed ∙ sym b.limb_is

        length_is : {t : Bool} → leb first 64 ≡ t → leb x.precision 64 ≡ t
        length_is e = ap (λ (n : ℕ). leb n 64) (sym b.precision_is) ∙ e

        go : (t : Bool) → leb first 64 ≡ t
            → (decide_at o p x z 1 ≡ true) × (add o p x z ≡ rounded (way o x.negative) p (x.exponent - 128 - 1) x.negative (2 * (read_sum x z 1 * 2 ^ 64) + bit false))
        go true e = exact_says p positive o x z d lead (whole_row x z b.zero (length_is e))
        go false e = unread_says p positive o x z d lead (rw D (beyond (sym (ap (λ (t : Bool). t || rest) e) ∙ fixed))) (long_row x z b.zero (length_is e))

    pub alone_told : (mode : Mode) (negative : Bool) (limb : ℕ) (placed : Placed) → placed ≡ rounded_placed mode p negative (top - 128) false (u ∷ []) 0 false → limb ∷ [] ≡ rounded_limbs mode p negative (top - 128) false (u ∷ []) 0 false
        → (x z : Operand) → Beside x z first top u → negative ≡ x.negative → Told mode p x z negative limb placed
    alone_told mode negative limb placed e g x z b sign =
        run_told p l.least l.most top l.low l.high false u some 0 false mode negative limb placed e g x z b.exponent_is sign (says mode x z b)

-- ---- as the code finds it

module _ (p : ℕ) (least : least_precision ≤ p) (most : p ≤ 62) (x : Number) (xl : List ℕ) (g : WellFormed (operand_of x xl)) (r : (operand_of x xl).is_zero ≡ false) (top u : ℕ) (te : top ≡ counted x.exponent) (ue : u ≡ top_limb xl) where
  pub lone : Lone p top u
  unfolding operand_of
  lone = record { least = least; most = most; led = rw ue (top_led (operand_of x xl) g r); low = rw te (g.regular r).least; high = rw te (g.regular r).most }

  pub alone_looked : (mode : Mode) (s : Seen) → ((v z : Operand) → Beside v z x.precision top u → x.negative ≡ v.negative → Told mode p v z s.negative s.limb s.placed)
      → (z : Operand) → WellFormed z → z.is_zero ≡ true → Looked mode p (operand_of x xl) z (record { seen = s; first = 1; second = 0 })
  unfolding operand_of
  alone_looked mode s says z h zero =
      let P : 0 < p = omega (arith, two_digits, least) in
      let d : Ordered (operand_of x xl) z = record { first = g; second = h; regular = r; order = λ e. absurd (true≢false (sym zero ∙ e)) } in
      let t = says (operand_of x xl) z (record { formed = g; regular = r; other = h; zero = zero; precision_is = refl; exponent_is = te; limb_is = ue }) refl in
      record {
        depth = depth_one mode p P (operand_of x xl) z d t.fixed;
        left = t.left;
        signed = t.signed;
        first = first_used mode p P (operand_of x xl) z d;
        second = unused z (top_exponent (operand_of x xl) z) zero;
      }
    where
      unused : (z : Operand) (t : ℕ) → z.is_zero ≡ true → 0 ≡ limbs_used t 1 z
      unused z t e = unfold limbs_used in rw e refl
