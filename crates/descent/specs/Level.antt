-- Two operands of one exponent and unlike signs. Definitions only.
use Rattle.std.specs.Prelude.{◌≡◌, false}
use Rattle.std.specs.Bool.{beq}
use Rattle.numbers.specs.Operand.{Operand, WellFormed}

-- two regular operands of one exponent and unlike signs
pub record Level (x y : Operand) : Type 0 where
  pub first : WellFormed x
  pub second : WellFormed y
  pub first_regular : x.is_zero ≡ false
  pub second_regular : y.is_zero ≡ false
  pub even : y.exponent ≡ x.exponent
  pub unlike : beq x.negative y.negative ≡ false
