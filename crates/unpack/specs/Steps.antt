-- What the steps from a double's bits to a number hand on. Definitions only.
use Rattle.std.specs.Prelude.{ℕ, Bool, cond, List, ℤ, Result, Ok, Err}
use Rattle.checks.specs.declared.Number.{Number}
use Rattle.checks.specs.declared.Kind.{Kind}
use Rattle.checks.specs.declared.Refusal.{Refusal}
use Rattle.checks.specs.declared.Rule.TheVariants.{NoNumber}
use Rattle.checks.specs.declared.Place.TheVariants.{First}
use Rattle.unpack.specs.Double.{is_finite}
use Rattle.unpack.specs.Read.{number_of_bits, limbs_of_bits}

unfoldable pub read_as : Bool → Kind → ℤ → Number
read_as negative kind e = record { negative = negative; kind = kind; precision = 53; exponent = e }

-- of bits that are no NaN's
unfoldable pub bits_read : ℕ → Result Number Refusal
bits_read b = cond (is_finite b) (Ok (number_of_bits b)) (Err (record { rule = NoNumber; place = First }))

unfoldable pub bits_limbs : List ℕ → ℕ → List ℕ
bits_limbs t b = cond (is_finite b) (limbs_of_bits b) t
