-- Two operands whose digits are all among those kept, and whose top limbs come to the same in the column, cancel: a zero. Assumes nothing.
use mathlib.Core.Path.{◌≡◌, refl, sym, ap, ◌∙◌, subst}
use mathlib.Core.Bool.{Bool, true, false, not, beq, true≢false}
use mathlib.Core.List.{[], ◌∷◌}
use Prim.Native.Nat.{ℕ, ◌/◌, ◌^◌, ◌<◌}
use native.Mathlib.Omega.{arith}
use lib.IntN.{pos}
use lib.ListN.{replicate}
use Rattle.numbers.specs.Limits.{limbs_for}
use Rattle.numbers.specs.Operand.{Operand}
use Rattle.numbers.proofs.Limits.{two_digits}
use Rattle.rounding.specs.declared.Mode.{Mode}
use Rattle.rounding.specs.Answer.{Answer, zero_of}
use Rattle.rounding.specs.Sum.{add, zero_sign}
use Rattle.depth.proofs.Bounds.{deepest_today}
use Rattle.decide.specs.Decide.{decide_at}
use Rattle.place.specs.declared.Placed.{Placed}
use Rattle.place.specs.Placed.{placed_of, limbs_after}
use Rattle.columns.specs.Column.{read_to}
use Rattle.settle.specs.declared.rows.Pair.{Pair}
use Rattle.settle.specs.declared.rows.Row.TheVariants.{Exact}
use Rattle.settle.specs.Rows.{row_of}
use Rattle.bridge.specs.Verdict.{pair_of, exact?}
use Rattle.bridge.proofs.Told.{pair_same}
use Rattle.bridge.proofs.Decision.{equal_decision}
use Rattle.bridge.proofs.Answers.{cancelled_sum}
use Rattle.bridge.proofs.Covered.{columns_above}
use Rattle.descent.specs.Finishing.{Left}
use Rattle.reports.specs.Signed.{Signed}
use Rattle.narrow.specs.Sighting.{Held, Facing, AllKept, Told}
use Rattle.narrow.proofs.Rows.{whole_row}
use Rattle.narrow.proofs.Settled.{here}
use Rattle.narrow.proofs.Tops.{first_read_lem, second_read, apart}
use Rattle.narrow.proofs.Kept.{whole}

-- of two signs, one tells the other
two_signs : (o : Mode) (a b : Bool) → beq a b ≡ false → zero_sign o a b ≡ zero_sign o a (not a)
two_signs o true true e = absurd (true≢false e)
two_signs o true false e = refl
two_signs o false true e = refl
two_signs o false false e = absurd (true≢false e)

module _ (p : ℕ) (pair : Pair) (u v : ℕ) (f : Facing p pair u) (k : AllKept p pair) (level : u ≡ v / 2 ^ pair.gap) (mode : Mode) (x y : Operand) (h : Held x y pair u v) where
  abbrev o : Mode
  o = mode

  positive : 0 < p
  positive = omega (arith, two_digits, f.least)

  unlike : (pair_of x y).same ≡ false
  unlike = apart x y pair u v h k.unlike

  -- the column has all of both, and they are alike in it
  row : row_of (pair_of x y) 1 ≡ Exact
  row = here pair x y h.pair_is (whole_row pair f.second_some (whole p pair u v f k))

  alike : read_to 1 (pair_of x y).gap y.limbs ≡ read_to 1 0 x.limbs
  alike = second_read x y pair u v h ∙ sym level ∙ sym (first_read_lem x y pair u v h)

  -- so it fixes the answer, which is a zero
  fixed : decide_at o p x y 1 ≡ true
  unfolding exact?
  fixed = equal_decision o p positive x y 1 h.ordered (omega arith) unlike alike ∙ ap exact? row

  sum : add o p x y ≡ zero_of (zero_sign o x.negative y.negative)
  sum =
      cancelled_sum o p positive x y 1 h.ordered (omega arith)
      (omega (arith, columns_above x h.ordered.first h.ordered.regular 1 (omega (arith, deepest_today)))) unlike alike row

  -- one limb of 0 is what a zero leaves
  zero_left : (negative : Bool) {limb : ℕ} {placed : Placed} → limb ≡ 0 → placed ≡ record { rule = 0; exponent = 0; ternary = pos 0 } → Left p (zero_of negative) (limb ∷ []) placed
  unfolding placed_of limbs_after
  zero_left negative e g = record { told = g; limbs = ap (λ (n : ℕ). n ∷ []) e ∙ ap (λ (n : ℕ). replicate n 0) one }
    where
      one : 1 ≡ limbs_for p
      one = unfold limbs_for in omega (arith, two_digits, f.least, f.most)

  -- its sign is told by that of the first
  sign_is : {a b : Bool} → a ≡ x.negative → b ≡ zero_sign o a (not a) → zero_sign o x.negative y.negative ≡ b
  sign_is i s = two_signs o x.negative y.negative (sym (pair_same x y h.regular) ∙ unlike) ∙ sym (rw (← i) s)

  -- what is told of them
  pub cancelled_told : {a negative : Bool} {limb : ℕ} {placed : Placed} → a ≡ x.negative → negative ≡ zero_sign o a (not a) → limb ≡ 0 → placed ≡ record { rule = 0; exponent = 0; ternary = pos 0 } → Told o p x y negative limb placed
  cancelled_told {a} {negative} {limb} {placed} i s e g = record {
    fixed = fixed;
    left = subst (λ (a : Answer). Left p a (limb ∷ []) placed) (sym sum) (zero_left _ e g);
    signed = subst (Signed negative) (sym sum) (sign_is i s);
  }
