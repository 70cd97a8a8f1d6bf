-- What is printed for fields. Definitions only.
use Rattle.std.specs.Prelude.{ℕ, ◌-◌, ◌^◌, List, [], ◌++◌, false, cond, codes, Option, Some, None}
use Rattle.std.specs.Int.{w32, cast_unsigned}
use Rattle.std.specs.Fmt.{padded_integral, format_spec, radix_digits}
use Rattle.checks.specs.declared.Kind.{Kind}
use Rattle.checks.specs.declared.Kind.TheVariants.{Regular, Zero}
use Rattle.checks.specs.declared.Number.{Number}
use Rattle.checks.specs.declared.Refusal.{Refusal}
use Rattle.checks.specs.Refusal.{rule_number, place_number}

-- a number in so many lowercase hexadecimal digits, or in as many more as it takes
abbrev pub in_digits : ℕ → ℕ → List ℕ
in_digits n v = padded_integral (format_spec 32 0 4 n (2 ^ 64 - 1)) false [] (radix_digits 16 false v)

-- rule and place, or 0000 where nothing is refused
abbrev pub refusal_text : Option Refusal → List ℕ
refusal_text None = codes "0000"
refusal_text (Some r) = in_digits 2 (rule_number r.rule) ++ in_digits 2 (place_number r.place)

-- 00 regular, 01 a zero
abbrev pub kind_number : Kind → ℕ
kind_number Regular = 0
kind_number Zero = 1

-- sign, kind, precision, exponent in two's complement
abbrev pub number_text : Number → List ℕ
number_text x =
    in_digits 2 (cond x.negative 1 0) ++ (in_digits 2 (kind_number x.kind) ++ (in_digits 16 x.precision ++ in_digits 8 (cast_unsigned w32 x.exponent)))

-- an item of a run in so many digits, where its type says what number it is
abbrev pub item_text : ℕ → Option ℕ → List ℕ
item_text n None = []
item_text n (Some v) = in_digits n v
