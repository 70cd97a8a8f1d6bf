-- The number of a double. Definitions only.
-- Document 01, "Doubles": "Double to number is exact at precision 53, subnormals normalised; its one-limb target is checked by 3, then 14."
use Rattle.std.specs.Prelude.{ℕ, ◌+◌, ◌-◌, ◌*◌, ◌^◌, Bool, not, cond, ◌||◌, List, [], ◌∷◌, eqb, pos, length, Float, Result}
use Rattle.std.specs.Float.{binary64}
use Rattle.std.specs.Float.Ieee.{to_bits, is_nan, size}
use Rattle.numbers.specs.Limits.{bias}
use Rattle.checks.specs.declared.Number.{Number}
use Rattle.checks.specs.declared.Refusal.{Refusal}
use Rattle.checks.specs.declared.Rule.TheVariants.{Limbs, NoNumber}
use Rattle.checks.specs.declared.Place.TheVariants.{First, Target}
use Rattle.checks.specs.declared.Kind.TheVariants.{Regular, Zero}
use Rattle.checks.specs.Number.{exponent_of}
use Rattle.checks.specs.Check.{test, first_refusal, answered, left_by, length_holds}
use Rattle.unpack.specs.Double.{double_precision, double_sign, is_finite, double_digits, double_scale}

-- "double that is infinite or NaN"
unfoldable pub is_number : Float → Bool
is_number d = not (is_nan d || not (is_finite (to_bits binary64 d)))

-- 3 has the target's place, 14 the double's
unfoldable pub read_refusal : ℕ → Float → Result (Unit {0}) Refusal
read_refusal n d = first_refusal (test (length_holds double_precision n) Limbs Target ∷ test (is_number d) NoNumber First ∷ [])

-- z digits of which the last has the weight 2^(scale − 1075) reach up to the exponent z + scale − 1075, counted
unfoldable pub read_exponent : ℕ → ℕ
read_exponent b = size (double_digits b) + double_scale b + (bias - 1075)

-- "a zero result has exponent 0"
unfoldable pub number_of_bits : ℕ → Number
number_of_bits b =
    cond (eqb (double_digits b) 0)
    (record { negative = double_sign b; kind = Zero; precision = double_precision; exponent = pos 0 })
    (record { negative = double_sign b; kind = Regular; precision = double_precision; exponent = exponent_of (read_exponent b) })

-- its digits at the top of the limb, "subnormals normalised"
unfoldable pub limbs_of_bits : ℕ → List ℕ
limbs_of_bits b = double_digits b * 2 ^ (64 - size (double_digits b)) ∷ []

unfoldable pub read_of : ℕ → Float → Result Number Refusal
read_of n d = answered (read_refusal n d) (number_of_bits (to_bits binary64 d))

-- "8 and above change no lent buffer", nor does 3
unfoldable pub read_limbs : List ℕ → Float → List ℕ
read_limbs t d = left_by (read_refusal (length t) d) (limbs_of_bits (to_bits binary64 d)) t
