-- A hole more than a digit longer than the answer: it fixes the answer whatever lies below it, and no tie is near. Assumes nothing.
use mathlib.Core.Path.{◌≡◌, refl, ap, ◌∙◌}
use mathlib.Core.Bool.{Bool, true, false, not, cond, ◌&&◌}
use Prim.Native.Nat.{ℕ, ◌+◌, ◌-◌, ◌*◌, ◌^◌, ◌≤◌, ◌<◌}
use native.Mathlib.Omega.{arith}
use borrow.Author.Tests.{lt-ltb, ne_eqb}
use lib.Dec.{eqb}
use Rattle.numbers.specs.Operand.{Operand, mantissa}
use Rattle.rounding.specs.Mode.{Way, near, under, over, way}
use Rattle.rounding.specs.declared.Mode.{Mode}
use Rattle.rounding.specs.Answer.{rounded}
use Rattle.rounding.specs.Sum.{add}
use Rattle.decide.specs.Table.{hole?}
use Rattle.decide.specs.Decide.{decide_at}
use Rattle.settle.specs.Rows.{row_of}
use Rattle.settle.specs.declared.rows.Row.TheVariants.{Hole}
use Rattle.bridge.specs.Verdict.{pair_of, Ordered, read_sum, middle?, hole_way}
use Rattle.bridge.proofs.Theorems.{hole_sum, hole_difference}
use Rattle.bridge.proofs.HoleTest.{hole_test}

hole_fixes : (w : Way) (p digits : ℕ) (odd : Bool) → p + 1 < digits → hole? w p digits odd ≡ true
unfolding hole?
hole_fixes near p digits odd h = rw (lt-ltb (p + 1) digits h) refl
hole_fixes under p digits odd h = lt-ltb p digits (omega arith)
hole_fixes over p digits odd h = lt-ltb p digits (omega arith)

off_middle : (w : Way) (p gap : ℕ) → (p ≡ gap → ⊥) → middle? w p gap ≡ false
unfolding middle?
off_middle near p gap h = ne_eqb p gap h
off_middle under p gap h = refl
off_middle over p gap h = refl

module _ (o : Mode) (p : ℕ) (P : 0 < p) (x y : Operand) (k : ℕ) (d : Ordered x y) (K : 1 ≤ k) (is : row_of (pair_of x y) k ≡ Hole) (far : p + 1 < (pair_of x y).gap) where
  abbrev w : Way
  w = way o x.negative

  pub far_fixed : decide_at o p x y k ≡ true
  far_fixed = hole_test o p P x y k d K is ∙ hole_fixes w p _ _ (go (not (pair_of x y).same && eqb (mantissa x) (2 ^ (x.precision - 1))))
    where
      go : (b : Bool) → p + 1 < (pair_of x y).gap + 1 - cond b 1 0
      go true = omega (arith, far)
      go false = omega (arith, far)

  way_is : hole_way w p (pair_of x y) ≡ w
  unfolding hole_way
  way_is = rw (off_middle w p (pair_of x y).gap (λ e. omega (arith, far))) refl

  module _ (b : ℕ) (room : 64 * b + 1 ≤ x.exponent - 64 * k) (deep : p + 1 < 64 * k + 64 * b) where
    abbrev D : ℕ
    D = read_sum x y k * 2 ^ (64 * b)

    abbrev Says : ℕ → Way → Type 0
    Says n v = add o p x y ≡ rounded v p (x.exponent - 64 * k - 64 * b - 1) x.negative n

    pub far_sum : (pair_of x y).same ≡ true → Says (2 * D + 1) w
    far_sum s = hole_sum o p P x y k d K is b room far_fixed s (omega arith) ∙ ap (λ (v : Way). rounded v p (x.exponent - 64 * k - 64 * b - 1) x.negative (2 * D + 1)) way_is

    pub far_difference : (pair_of x y).same ≡ false → Says (2 * D - 1) w
    far_difference s = hole_difference o p P x y k d K is b room far_fixed s deep ∙ ap (λ (v : Way). rounded v p (x.exponent - 64 * k - 64 * b - 1) x.negative (2 * D - 1)) way_is
