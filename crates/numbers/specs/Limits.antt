-- The limits of document 01, each named once. Definitions only.
use Rattle.std.specs.Prelude.{ℕ, suc, ◌+◌, ◌-◌, ◌/◌, ◌^◌, ℤ, pos, negsuc}

-- "Precision: 2 to 4,096."
unfoldable pub least_precision : ℕ
least_precision = 2

unfoldable pub most_precision : ℕ
most_precision = 4096

-- Exponents are counted from -2 ^ 40, so that every weight in sight is 2 to a natural number: an exponent e is counted as e + bias.
unfoldable pub bias : ℕ
bias = 2 ^ 40

unfoldable pub counted : ℤ → ℕ
counted (pos n) = bias + n
counted (negsuc n) = bias - suc n

-- "Exponent of a regular number: 1 - 2^30 to 2^30 - 1", counted
unfoldable pub least_exponent : ℕ
least_exponent = bias + 1 - 2 ^ 30

unfoldable pub most_exponent : ℕ
most_exponent = bias + 2 ^ 30 - 1

-- "There are L = ceil(p/64) limbs"
unfoldable pub limbs_for : ℕ → ℕ
limbs_for p = (p + 63) / 64
