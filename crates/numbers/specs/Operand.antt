-- A number with its limbs, what it is worth, and its good form. Definitions only.
-- Document 01, "The numbers".
use Rattle.std.specs.Prelude.{ℕ, ◌-◌, ◌*◌, ◌/◌, ◌%◌, ◌^◌, ◌≤◌, ◌≡◌, Bool, true, false, not, List, length}
use Rattle.limb.specs.Value.{value_of, Below}
use Rattle.numbers.specs.Limits.{least_precision, most_precision, bias, least_exponent, most_exponent, limbs_for}

-- "A number is a sign, a kind (regular or zero), a precision p, an exponent e and its limbs." The exponent is counted.
pub record Operand : Type 0 where
  pub negative : Bool
  pub is_zero : Bool
  pub precision : ℕ
  pub exponent : ℕ
  pub limbs : List ℕ

-- "The 64L - p spare bits at the bottom of the lowest limb"
unfoldable pub spare_bits : ℕ → ℕ
spare_bits p = 64 * limbs_for p - p

-- b1 b2 .. bp as a whole number: the limbs without the spare bits
unfoldable pub mantissa : Operand → ℕ
mantissa x = value_of x.limbs / 2 ^ spare_bits x.precision

-- the weight of bp: "worth ± 0.b1 b2 .. bp × 2^e" is ± mantissa × 2 ^ last_weight
unfoldable pub last_weight : Operand → ℕ
last_weight x = x.exponent - x.precision

-- "b1 = 1", the top bit of the top limb; "the spare bits .. are 0"
pub record Regular (x : Operand) : Type 0 where
  pub least : least_exponent ≤ x.exponent
  pub most : x.exponent ≤ most_exponent
  pub lead : 2 ^ (64 * limbs_for x.precision - 1) ≤ value_of x.limbs
  pub spare : value_of x.limbs % 2 ^ spare_bits x.precision ≡ 0

-- "Zero is signed, has a precision and exponent 0; its limbs mean nothing."
pub record WellFormed (x : Operand) : Type 0 where
  pub least : least_precision ≤ x.precision
  pub most : x.precision ≤ most_precision
  pub count : length x.limbs ≡ limbs_for x.precision
  pub limb : Below (2 ^ 64) x.limbs
  pub zero : x.is_zero ≡ true → x.exponent ≡ bias
  pub regular : x.is_zero ≡ false → Regular x

-- x with the other sign: "subtract (add with the second sign turned)"
unfoldable pub turned : Operand → Operand
turned x = record { negative = not x.negative; is_zero = x.is_zero; precision = x.precision; exponent = x.exponent; limbs = x.limbs }

-- a zero of x's sign and precision: "Re-rounding reports as addition of a zero does."
unfoldable pub zero_like : Operand → Operand
zero_like x = record { negative = x.negative; is_zero = true; precision = x.precision; exponent = bias; limbs = x.limbs }
