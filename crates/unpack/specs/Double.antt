-- A double, by its bits: what they are worth, and the bits of a normal double. Definitions only.
-- IEEE 754, binary64: the sign's bit, 11 bits of the exponent's field, 52 of the fraction.
use Rattle.std.specs.Prelude.{ℕ, ◌+◌, ◌-◌, ◌*◌, ◌/◌, ◌%◌, ◌^◌, Bool, cond, ltb, leb, eqb, Float}
use Rattle.std.specs.Float.{binary64}
use Rattle.std.specs.Float.Ieee.{of_bits}
use Rattle.numbers.specs.Limits.{bias}

-- "selected with 53 bits"
unfoldable pub double_precision : ℕ
double_precision = 53

-- the exponents of normal doubles as 0.b1 .. b53 × 2^e, counted: "below 2^−1022 in size" is below, "beyond the largest finite one" above
unfoldable pub double_least : ℕ
double_least = bias - 1021

unfoldable pub double_most : ℕ
double_most = bias + 1024

-- ---- what bits are worth

unfoldable pub double_sign : ℕ → Bool
double_sign b = leb (2 ^ 63) b

unfoldable pub exponent_field : ℕ → ℕ
exponent_field b = b / 2 ^ 52 % 2 ^ 11

unfoldable pub fraction : ℕ → ℕ
fraction b = b % 2 ^ 52

-- a field of ones is that of an infinity or a NaN
unfoldable pub is_finite : ℕ → Bool
is_finite b = ltb (exponent_field b) 2047

-- a field of 0 is that of a subnormal: it has no leading 1, and counts as a field of 1
unfoldable pub double_digits : ℕ → ℕ
double_digits b = cond (eqb (exponent_field b) 0) (fraction b) (2 ^ 52 + fraction b)

unfoldable pub double_scale : ℕ → ℕ
double_scale b = cond (eqb (exponent_field b) 0) 1 (exponent_field b)

-- the size of a finite double, in units of 2^−1074, the smallest positive one
unfoldable pub double_worth : ℕ → ℕ
double_worth b = double_digits b * 2 ^ (double_scale b - 1)

-- the weight of that unit, counted
unfoldable pub double_unit : ℕ
double_unit = bias - 1074

-- ---- bits

unfoldable pub sign_bit : Bool → ℕ
sign_bit negative = cond negative (2 ^ 63) 0

-- the normal double ± 0.d × 2^e with d of 53 digits: the field counts from 1, and the first digit is not written
unfoldable pub packed : Bool → ℕ → ℕ → ℕ
packed negative e d = sign_bit negative + (e - double_least + 1) * 2 ^ 52 + (d - 2 ^ 52)

-- "The double is stated by its bits."
unfoldable pub double : ℕ → Float
double b = of_bits binary64 b
