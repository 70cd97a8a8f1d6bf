-- The enclosing pair. Definitions only.
-- Document 01, "Doubles": "The enclosing pair keeps two doubles together, the down answer and the up answer"
use Rattle.std.specs.Prelude.{ℕ, ◌*◌, ◌^◌, ◌≡◌, true, Float, Result, Ok, Err}
use Rattle.std.specs.Float.{binary64}
use Rattle.std.specs.Float.Ieee.{to_bits}
use Rattle.numbers.specs.Operand.{Operand}
use Rattle.rounding.specs.Sum.{amount}
use Rattle.rounding.specs.Paper.{Le}
use Rattle.rounding.specs.declared.Mode.TheVariants.{Upward, Downward}
use Rattle.checks.specs.declared.Refusal.{Refusal}
use Rattle.checks.specs.Check.{then, alone_refusal}
use Rattle.doubles.specs.declared.Converted.{Converted}
use Rattle.doubles.specs.declared.Converted.TheVariants.{Exact, Below, Above}
use Rattle.doubles.specs.declared.Enclosing.{Enclosing}
use Rattle.unpack.specs.Double.{double_sign, is_finite, double_worth, double_unit}
use Rattle.doubles.specs.Convert.{in_doubles, double_case}

-- the double of an answer
unfoldable pub end_of : Converted → Float
end_of (Exact d) = d
end_of (Below d) = d
end_of (Above d) = d

-- "the lower end's refusal is named first"
unfoldable pub pair_of : Result Converted Refusal → Result Converted Refusal → Result Enclosing Refusal
pair_of (Ok down) (Ok up) = Ok (record { lower = end_of down; upper = end_of up })
pair_of (Ok down) (Err r) = Err r
pair_of (Err r) up = Err r

-- checks 2 to 5, then the down answer and the up answer
unfoldable pub enclosed_of : Operand → Result Enclosing Refusal
enclosed_of x = then (alone_refusal x) (pair_of (double_case (in_doubles Downward x)) (double_case (in_doubles Upward x)))

-- "the number is a double": finite bits of its sign and its worth
pub record IsDouble (x : Operand) : Type 0 where
  pub bits : ℕ
  pub finite : is_finite bits ≡ true
  pub sign : double_sign bits ≡ x.negative
  pub worth : double_worth bits * 2 ^ double_unit ≡ amount 0 x

-- lower ≤ x ≤ upper, by worth, and the two "are equal exactly when the number is a double"
pub record Encloses (x : Operand) (e : Enclosing) : Type 0 where
  pub below : Le (double_sign (to_bits binary64 e.lower)) (double_worth (to_bits binary64 e.lower) * 2 ^ double_unit) x.negative (amount 0 x)
  pub above : Le x.negative (amount 0 x) (double_sign (to_bits binary64 e.upper)) (double_worth (to_bits binary64 e.upper) * 2 ^ double_unit)
  pub equal : e.lower ≡ e.upper → IsDouble x
  pub double : IsDouble x → e.lower ≡ e.upper
