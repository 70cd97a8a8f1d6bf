-- The number that a caller hands over, as the operand of the theory. Definitions only.
use Rattle.std.specs.Prelude.{ℕ, ◌+◌, ◌-◌, ◌^◌, Bool, true, false, not, cond, ◌&&◌, List, leb, ltb, ℤ, pos, get_or}
use Rattle.std.proofs.Math.IntN.{sub_ℕ}
use Rattle.numbers.specs.Limits.{counted, bias}
use Rattle.numbers.specs.Operand.{Operand}
use Rattle.checks.specs.declared.Number.{Number}
use Rattle.checks.specs.declared.Kind.{Kind}
use Rattle.checks.specs.declared.Kind.TheVariants.{Regular, Zero}

unfoldable pub is_zero_kind : Kind → Bool
is_zero_kind Regular = false
is_zero_kind Zero = true

-- "A number is a sign, a kind (regular or zero), a precision p, an exponent e and its limbs."
unfoldable pub operand_of : Number → List ℕ → Operand
operand_of x l = record { negative = x.negative; is_zero = is_zero_kind x.kind; precision = x.precision; exponent = counted x.exponent; limbs = l }

-- what a refused call returns: "+0 of precision 2"
unfoldable pub nothing : Number
nothing = record { negative = false; kind = Zero; precision = 2; exponent = pos 0 }

-- the same with the other sign
unfoldable pub turned_number : Number → Number
turned_number x = record { negative = not x.negative; kind = x.kind; precision = x.precision; exponent = x.exponent }

-- the exponent that is counted as c; 0 where none of 32 bits is
unfoldable pub exponent_of : ℕ → ℤ
exponent_of c = cond (leb (bias - 2 ^ 31) c && ltb c (bias + 2 ^ 31)) (sub_ℕ c bias) (pos 0)

-- the limb at a place of a number of that precision; past the end stands 0
unfoldable pub fetched : List ℕ → ℕ → ℕ → ℕ
fetched l p i = get_or l i 0
