-- The answer of a sum is the paper's: whatever number c the mode asks for, given the exact sum, is the one answered, with its exponent, its digits and the sign of c less the sum.
use mathlib.Core.Path.{◌≡◌, ap, ◌∙◌}
use mathlib.Core.Bool.{Bool, true, false}
use Prim.Native.Nat.{ℕ, ◌+◌, ◌-◌, ◌≤◌, ◌<◌}
use native.Mathlib.Omega.{arith}
use lib.Ieee.{size}
use Rattle.numbers.specs.Operand.{Operand}
use Rattle.rounding.specs.Mode.{way}
use Rattle.rounding.specs.declared.Mode.{Mode}
use Rattle.rounding.specs.Answer.{ranged, rounded}
use Rattle.rounding.specs.Sum.{scale, zero_sign, sum_at, add}
use Rattle.rounding.specs.Paper.{Asks, Exact, kept}
use Rattle.rounding.proofs.Ends.{plus, minus}
use Rattle.rounding.proofs.Range.{rounded_by_paper}

-- the exact sum alone decides
pub add_rounds : (o : Mode) (p : ℕ) (x y : Operand) (n : Bool) (m : ℕ) → 0 < p → 0 < m → Exact (scale x y) x y n m → add o p x y ≡ rounded (way o n) p (scale x y) n m
unfolding add sum_at
add_rounds o p x y n m P M e = go n e
  where
    s : ℕ
    s = scale x y

    z : Bool
    z = zero_sign o x.negative y.negative

    more : (a b : ℕ) → a ≡ m + b → b < a
    more a b e = omega arith

    less : (a b : ℕ) → a ≡ m + b → a - b ≡ m
    less a b e = omega arith

    go : (n : Bool) → Exact s x y n m → add o p x y ≡ rounded (way o n) p s n m
    go false e = plus z o p s P _ _ (more _ _ e) ∙ ap (rounded (way o false) p s false) (less _ _ e)
    go true e = minus z o p s P _ _ (more _ _ e) ∙ ap (rounded (way o true) p s true) (less _ _ e)

pub add_by_paper : (o : Mode) (p : ℕ) (x y : Operand) (n : Bool) (m c : ℕ) → 2 ≤ p → 0 < m → Exact (scale x y) x y n m → Asks o p n m n c
    → add o p x y ≡ ranged (size c + scale x y) (kept p (scale x y) n m c)
add_by_paper o p x y n m c P M e a = add_rounds o p x y n m (omega arith) M e ∙ rounded_by_paper o p (scale x y) n m c P M a
