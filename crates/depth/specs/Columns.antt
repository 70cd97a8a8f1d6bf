-- Columns, and what it is to agree in the first k of them. Definitions only.
-- Document 01, "Columns and depth".
use Rattle.std.specs.Prelude.{ℕ, ◌+◌, ◌-◌, ◌*◌, ◌/◌, ◌%◌, ◌^◌, ◌<◌, min, max, ◌≡◌, cond, ltb, leb}
use Rattle.numbers.specs.Limits.{limbs_for}
use Rattle.numbers.specs.Operand.{Operand, mantissa, last_weight, WellFormed}

-- "Let E be the larger exponent among the regular operands." (Of two zeros there is none, and their depth asks for none.)
unfoldable pub top_exponent : Operand → Operand → ℕ
top_exponent x y = cond x.is_zero y.exponent (cond y.is_zero x.exponent (max x.exponent y.exponent))

-- the bit of weight 2 ^ w. "An operand has bits only within its precision; beyond it, and above its b1, there is known nothing, and that is worth 0."
-- (Above b1 the quotient is 0; a zero has no bits.)
unfoldable pub bit_at : Operand → ℕ → ℕ
bit_at x w = cond x.is_zero 0 (cond (ltb w (last_weight x)) 0 (mantissa x / 2 ^ (w - last_weight x) % 2))

-- "Column 0 holds the bits of weights 2^(E-1) down to 2^(E-64) of both operands, column 1 the next 64 weights, and so on."
-- Bit i of column j, for i from 0 to 63, where E is t.
unfoldable pub column_bit : ℕ → ℕ → ℕ → Operand → ℕ
column_bit t j i x = bit_at x (t - (64 * j + i + 1))

-- x and z agree in the first k columns
unfoldable pub Agree : ℕ → ℕ → Operand → Operand → Type 0
Agree t k x z = (j i : ℕ) → j < k → i < 64 → column_bit t j i z ≡ column_bit t j i x

-- z may stand in x's place where only the first k columns are known: "well-formed .. with the same kinds, signs, exponents and precisions that agrees in those columns"
pub record Like (t k : ℕ) (x z : Operand) : Type 0 where
  pub well_formed : WellFormed z
  pub negative : z.negative ≡ x.negative
  pub is_zero : z.is_zero ≡ x.is_zero
  pub precision : z.precision ≡ x.precision
  pub exponent : z.exponent ≡ x.exponent
  pub columns : Agree t k x z

-- "For depth k, the limbs used of an operand with exponent e and L limbs are 0 where 64k ≤ E - e, else the smaller of L and ceil((64k - (E - e))/64); a zero uses 0."
unfoldable pub limbs_used : ℕ → ℕ → Operand → ℕ
limbs_used t k x =
    cond x.is_zero 0
    (cond (leb (64 * k) (t - x.exponent)) 0
    (min (limbs_for x.precision) ((64 * k - (t - x.exponent) + 63) / 64)))
