-- An operand, or a target, for which every test holds. Definitions only.
use Rattle.std.specs.Prelude.{◌≡◌, ℕ, true, length}
use Rattle.numbers.specs.Operand.{Operand}
use Rattle.checks.specs.Check.{precision_holds, length_holds, exponent_holds, form_holds}

-- tests 2 and 3 hold for a target, and tests 2 to 5 for an operand
pub record TargetPasses (p n : ℕ) : Type 0 where
  pub precision : precision_holds p ≡ true
  pub limbs : length_holds p n ≡ true

pub record Passes (x : Operand) : Type 0 where
  pub precision : precision_holds x.precision ≡ true
  pub limbs : length_holds x.precision (length x.limbs) ≡ true
  pub exponent : exponent_holds x ≡ true
  pub form : form_holds x ≡ true
