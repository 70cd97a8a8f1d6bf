-- What the theory asks of the limits, and nothing more: a change of the limits is checked here. Assumes nothing.
use mathlib.Core.Path.{◌≡◌, refl}
use Prim.Native.Nat.{ℕ, ◌+◌, ◌-◌, ◌*◌, ◌^◌, ◌≤◌, ◌<◌}
use native.Mathlib.Omega.{arith}
use lib.IntN.{pos, negsuc}
use Rattle.numbers.specs.Limits.{least_precision, most_precision, bias, counted, least_exponent, most_exponent, limbs_for}

-- a precision has a first digit and another
pub two_digits : 2 ≤ least_precision
unfolding least_precision
two_digits = omega arith

-- the range of precisions is not empty
pub precisions_some : least_precision ≤ most_precision
unfolding least_precision most_precision
precisions_some = omega arith

-- it goes from 2 to 4,096
pub precisions_are : (least_precision ≡ 2) × (most_precision ≡ 4096)
unfolding least_precision most_precision
precisions_are = (refl, refl)

-- nor is the range of exponents
pub range_some : least_exponent ≤ most_exponent
unfolding least_exponent most_exponent bias
range_some = omega arith

-- it goes from 1 - 2 ^ 30, which is -(2 ^ 30 - 2) - 1, to 2 ^ 30 - 1
pub range_is : (counted (negsuc (2 ^ 30 - 2)) ≡ least_exponent) × (counted (pos (2 ^ 30 - 1)) ≡ most_exponent)
unfolding counted bias least_exponent most_exponent
range_is = (refl, refl)

-- every weight of a regular number is 2 to a natural number, with room for two targets below it
pub weights_counted : 4 * most_precision < least_exponent
unfolding least_exponent most_precision bias
weights_counted = omega arith

-- the limbs hold all p digits
pub limbs_hold : (p : ℕ) → p ≤ 64 * limbs_for p
unfolding limbs_for
limbs_hold p = omega arith

-- and no fewer would
pub limbs_fewest : (p : ℕ) → 64 * limbs_for p < p + 64
unfolding limbs_for
limbs_fewest p = omega arith

pub limbs_more : (p q : ℕ) → p ≤ q → limbs_for p ≤ limbs_for q
unfolding limbs_for
limbs_more p q h = omega arith
