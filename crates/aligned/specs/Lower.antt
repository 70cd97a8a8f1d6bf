-- Operands of two limbs each that differ in the lower ones alone. Definitions only.
use Rattle.std.specs.Prelude.{ℕ, ◌≡◌, false, get_or}
use Rattle.std.specs.Bool.{beq}
use Rattle.numbers.specs.Operand.{Operand}
use Rattle.aligned.specs.Aligned.{Aligned}

-- two regular operands of one exponent and unlike signs, of two limbs each: alike in the upper ones, the lower ones are u and v
pub record Lower (x y : Operand) (u v top : ℕ) : Type 0 where
  pub aligned : Aligned x y 2
  pub unlike : beq x.negative y.negative ≡ false
  pub level : get_or x.limbs 1 0 ≡ get_or y.limbs 1 0
  pub first_low : u ≡ get_or x.limbs 0 0
  pub second_low : v ≡ get_or y.limbs 0 0
  pub top_is : top ≡ x.exponent

-- some operands are so
pub record Lowered (u v top : ℕ) : Type 0 where
  pub first : Operand
  pub second : Operand
  pub lower : Lower first second u v top
