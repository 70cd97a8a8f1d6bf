-- Fields of a line in lowercase hexadecimal, as the vectors have them. Definitions only.
use Rattle.std.specs.Prelude.{ℕ, zero, suc, ◌+◌, ◌*◌, ◌-◌, ◌%◌, cond, List, drop, ltb, eqb, get_or}
use Rattle.checks.specs.declared.Number.{Number}
use Rattle.checks.specs.declared.Kind.{Kind}
use Rattle.checks.specs.declared.Kind.TheVariants.{Regular, Zero}
use Rattle.checks.specs.Number.{exponent_of}

-- a digit's value; 0 for any other byte
unfoldable pub digit_of : ℕ → ℕ
digit_of b = cond (ltb b 48) 0 (cond (ltb b 58) (b - 48) (cond (ltb b 97) 0 (cond (ltb b 103) (b - 87) 0)))

-- the field of so many digits with which a line begins, the highest first; past the line's end stands 0
unfoldable pub field_of : ℕ → List ℕ → ℕ
field_of zero l = 0
field_of (suc n) l = field_of n l * 16 + digit_of (get_or l n 0)

-- 00 regular, any other a zero
unfoldable pub kind_of : ℕ → Kind
kind_of k = cond (eqb k 0) Regular Zero

-- 32 bits in two's complement, counted from -2 ^ 40
unfoldable pub counted_from : ℕ → ℕ
counted_from bits = bits % 4294967296 + cond (ltb (bits % 4294967296) 2147483648) 1099511627776 1095216660480

-- sign, kind, precision, exponent
unfoldable pub number_of : List ℕ → Number
number_of l =
    record { negative = eqb (field_of 2 l) 1; kind = kind_of (field_of 2 (drop 2 l)); precision = field_of 16 (drop 4 l); exponent = exponent_of (counted_from (field_of 8 (drop 20 l))) }
