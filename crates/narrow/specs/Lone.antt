-- What the code holds of an operand alone. Definitions only.
use Rattle.std.specs.Prelude.{ℕ, ◌-◌, ◌%◌, ◌^◌, ◌≤◌, ◌<◌, ◌≡◌, true, false}
use Rattle.std.specs.Float.Ieee.{size}
use Rattle.numbers.specs.Limits.{least_precision, least_exponent, most_exponent}
use Rattle.numbers.specs.Operand.{Operand, WellFormed}
use Rattle.narrow.specs.Sighting.{top_limb}

-- a regular operand beside a zero: its precision, its exponent and its top limb
pub record Beside (x z : Operand) (first top u : ℕ) : Type 0 where
  pub formed : WellFormed x
  pub regular : x.is_zero ≡ false
  pub other : WellFormed z
  pub zero : z.is_zero ≡ true
  pub precision_is : first ≡ x.precision
  pub exponent_is : top ≡ x.exponent
  pub limb_is : u ≡ top_limb x.limbs

-- what is asked of it: digits that one limb holds with two to spare, a first limb with its first digit, and an exponent in range
pub record Lone (p top u : ℕ) : Type 0 where
  pub least : least_precision ≤ p
  pub most : p ≤ 62
  pub led : 2 ^ 63 ≤ u
  pub low : least_exponent ≤ top
  pub high : top ≤ most_exponent

-- D has more than p digits, and those below the half of the last one kept are not all 0: whatever follows D, no tie and no exact number is near
pub record Beyond (p D : ℕ) : Type 0 where
  pub longer : p < size D
  pub some : 1 ≤ D % 2 ^ (size D - p - 1)
