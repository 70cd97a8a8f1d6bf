-- Conversions computed: the doubles are those of the library, `fin s m e` for ± m × 2^e, and their bits are written out. Assumes nothing.
use mathlib.Core.Path.{◌≡◌, refl}
use mathlib.Core.Bool.{Bool, true, false}
use mathlib.Core.List.{List, [], ◌∷◌, map}
use Prim.Native.Nat.{ℕ, ◌+◌, ◌-◌, ◌*◌, ◌^◌}
use lib.IntN.{ℤ, pos, negsuc}
use lib.ListN.{length}
use lib.Ieee.{Float, nan, inf, fin, to_bits, of_bits, of_fields, odd, is_nan, size}
use Rattle.limb.specs.Value.{value_in}
use Rattle.numbers.specs.Limits.{least_precision, most_precision, bias, counted, least_exponent, most_exponent, limbs_for}
use Rattle.numbers.specs.Operand.{Operand, mantissa, last_weight, spare_bits}
use Rattle.rounding.specs.Mode.{mode_of, way}
use Rattle.rounding.specs.Select.{quotient, on_grid, unit, chosen}
use Rattle.rounding.specs.Answer.{digits, signed}
use Rattle.location.specs.Ternary.{ternary_of}
use Rattle.checks.specs.declared.Refusal.{Refusal}
use Rattle.checks.specs.declared.Kind.{Kind}
use Rattle.checks.specs.declared.Kind.TheVariants.{Regular, Zero}
use Rattle.checks.specs.Number.{is_zero_kind, operand_of, exponent_of}
use Rattle.checks.specs.Check.{accepted, answered, left_by, first_refusal, mode_holds, precision_holds, length_holds, exponent_holds, top_bit_holds, spare_bits_hold, form_holds, converted_refusal, alone_refusal}
use Rattle.doubles.specs.declared.Converted.TheVariants.{Exact, Below, Above}
use Rattle.doubles.specs.declared.Enclosing.{Enclosing}
use Rattle.std.specs.Prelude.{Result, Ok, Err}
use Rattle.checks.specs.declared.Number.{Number}
use Rattle.checks.specs.declared.Rule.{Rule}
use Rattle.checks.specs.declared.Rule.TheVariants.{Mode, Precision, Limbs, DoubleTooLarge, DoubleTooSmall, NoNumber}
use Rattle.checks.specs.declared.Place.{Place}
use Rattle.checks.specs.declared.Place.TheVariants.{Call, First, Target}
use Rattle.checks.specs.Refusal.{rule_number, place_number}
use Rattle.unpack.specs.Double.{double_precision, double_least, double_most, double_sign, exponent_field, fraction, is_finite, double_digits, double_scale, sign_bit, packed, double}
use Rattle.doubles.specs.Convert.{ranged_in, selected_in, converted_in, in_doubles, outside, case_of, double_case, converted_of, told, told_case, told_refusal, told_answer, told_call, told_of}
use Rattle.doubles.specs.Enclose.{end_of, pair_of, enclosed_of}
use Rattle.unpack.specs.Read.{is_number, read_refusal, read_exponent, number_of_bits, limbs_of_bits, read_of, read_limbs}

-- ---- numbers

-- 0.d × 2^e, with q digits in one limb
abbrev shown : Bool → ℕ → ℕ → ℤ → Operand
shown n q d e = operand_of (record { negative = n; kind = Regular; precision = q; exponent = e }) (d * 2 ^ (64 - q) ∷ [])

abbrev none : Bool → Operand
none n = operand_of (record { negative = n; kind = Zero; precision = 2; exponent = pos 0 }) (5 ∷ [])

-- 1, and 1 + 2^-53, half way to the next double
abbrev one : Operand
one = shown false 2 0b10 (pos 1)

abbrev after_one : Bool → Operand
after_one n = shown n 54 (2 ^ 53 + 1) (pos 1)

-- the largest double, and half a unit more; 2^1024
abbrev largest : Operand
largest = shown false 53 (2 ^ 53 - 1) (pos 1024)

abbrev beyond : Bool → Operand
beyond n = shown n 54 (2 ^ 54 - 1) (pos 1024)

-- 2^-1022, and a little less
abbrev smallest : Operand
smallest = shown false 2 0b10 (negsuc 1020)

abbrev under : Operand
under = shown false 54 (2 ^ 54 - 1) (negsuc 1021)

abbrev at : Rule → Place → Refusal
at n place = record { rule = n; place = place }

-- ---- number to double

pub converted :
    converted_of 0 one
    ∷ converted_of 0 (shown true 2 0b11 (pos 1))
    ∷ converted_of 0 (none false)
    ∷ converted_of 3 (none true)
    ∷ map (λ (mode : ℕ). converted_of mode (after_one false)) (0 ∷ 1 ∷ 2 ∷ 3 ∷ [])
    ≡ Ok (Exact (fin false 1 (pos 0)))
    ∷ Ok (Exact (fin true 3 (negsuc 0)))
    ∷ Ok (Exact (fin false 0 (pos 0)))
    ∷ Ok (Exact (fin true 0 (pos 0)))
    ∷ Ok (Below (fin false 1 (pos 0)))
    ∷ Ok (Below (fin false 1 (pos 0)))
    ∷ Ok (Above (fin false (2 ^ 52 + 1) (negsuc 51)))
    ∷ Ok (Below (fin false 1 (pos 0)))
    ∷ []
unfolding converted_of converted_refusal first_refusal accepted mode_holds precision_holds length_holds exponent_holds form_holds top_bit_holds spare_bits_hold in_doubles converted_in selected_in ranged_in double_case case_of ternary_of packed sign_bit double of_bits of_fields odd double_precision double_least double_most mode_of way digits signed chosen on_grid unit quotient size operand_of is_zero_kind counted mantissa last_weight value_in bias least_precision most_precision least_exponent most_exponent limbs_for spare_bits
converted = refl

-- at the ends of the range: only what is selected is judged; 12 and 13 have place 0, and a call's own faults come first
pub converted_at_ends :
    map (λ (mode : ℕ). converted_of mode (beyond false)) (0 ∷ 1 ∷ 2 ∷ 3 ∷ [])
    ≡ Err (at DoubleTooLarge Call) ∷ Ok (Below (fin false (2 ^ 53 - 1) (pos 971))) ∷ Err (at DoubleTooLarge Call) ∷ Ok (Below (fin false (2 ^ 53 - 1) (pos 971))) ∷ []
unfolding converted_of converted_refusal first_refusal accepted mode_holds precision_holds length_holds exponent_holds form_holds top_bit_holds spare_bits_hold in_doubles converted_in selected_in ranged_in double_case outside case_of ternary_of packed sign_bit double of_bits of_fields odd double_precision double_least double_most mode_of way digits signed chosen on_grid unit quotient size operand_of is_zero_kind counted mantissa last_weight value_in bias least_precision most_precision least_exponent most_exponent limbs_for spare_bits
converted_at_ends = refl

pub converted_beyond_ends :
    converted_of 0 largest
    ∷ converted_of 1 (shown false 2 0b10 (pos 1025))
    ∷ converted_of 2 (beyond true)
    ∷ converted_of 0 smallest
    ∷ converted_of 2 under
    ∷ converted_of 3 under
    ∷ converted_of 4 under
    ∷ converted_of 3 (shown false 1 1 (negsuc 1021))
    ∷ []
    ≡ Ok (Exact (fin false (2 ^ 53 - 1) (pos 971)))
    ∷ Err (at DoubleTooLarge Call)
    ∷ Ok (Above (fin true (2 ^ 53 - 1) (pos 971)))
    ∷ Ok (Exact (fin false 1 (negsuc 1021)))
    ∷ Ok (Above (fin false 1 (negsuc 1021)))
    ∷ Err (at DoubleTooSmall Call)
    ∷ Err (at Mode Call)
    ∷ Err (at Precision First)
    ∷ []
unfolding converted_of converted_refusal first_refusal accepted mode_holds precision_holds length_holds exponent_holds form_holds top_bit_holds spare_bits_hold in_doubles converted_in selected_in ranged_in double_case outside case_of ternary_of packed sign_bit double of_bits of_fields odd double_precision double_least double_most mode_of way digits signed chosen on_grid unit quotient size operand_of is_zero_kind counted mantissa last_weight value_in bias least_precision most_precision least_exponent most_exponent limbs_for spare_bits
converted_beyond_ends = refl

-- the same as numbers: the case, the bits, the refusal's number and place
pub converted_bits :
    told_of 0 one
    ∷ told_of 0 (shown true 2 0b11 (pos 1))
    ∷ told_of 0 (none true)
    ∷ told_of 0 largest
    ∷ told_of 0 smallest
    ∷ told_of 2 (after_one true)
    ∷ told_of 3 (after_one true)
    ∷ told_of 0 (beyond false)
    ∷ told_of 1 under
    ∷ []
    ≡ record { case = pos 0; bits = 0x3ff0000000000000; rule = 0; place = 0 }
    ∷ record { case = pos 0; bits = 0xbff8000000000000; rule = 0; place = 0 }
    ∷ record { case = pos 0; bits = 0x8000000000000000; rule = 0; place = 0 }
    ∷ record { case = pos 0; bits = 0x7fefffffffffffff; rule = 0; place = 0 }
    ∷ record { case = pos 0; bits = 0x0010000000000000; rule = 0; place = 0 }
    ∷ record { case = pos 1; bits = 0xbff0000000000000; rule = 0; place = 0 }
    ∷ record { case = negsuc 0; bits = 0xbff0000000000001; rule = 0; place = 0 }
    ∷ record { case = pos 0; bits = 0; rule = 12; place = 0 }
    ∷ record { case = pos 0; bits = 0; rule = 13; place = 0 }
    ∷ []
unfolding told_of told_call told_refusal rule_number place_number told_answer converted_refusal first_refusal accepted mode_holds precision_holds length_holds exponent_holds form_holds top_bit_holds spare_bits_hold in_doubles converted_in selected_in ranged_in ternary_of packed sign_bit double_precision double_least double_most mode_of way digits signed chosen on_grid unit quotient size operand_of is_zero_kind counted mantissa last_weight value_in bias least_precision most_precision least_exponent most_exponent limbs_for spare_bits
converted_bits = refl

-- what each case is told as
pub cases_told :
    map told (Ok (Exact (fin false 1 (pos 0))) ∷ Ok (Below (fin false 1 (pos 0))) ∷ Ok (Above (fin false 1 (pos 0))) ∷ Err (at DoubleTooLarge Call) ∷ [])
    ≡ record { case = pos 0; bits = 0x3ff0000000000000; rule = 0; place = 0 }
    ∷ record { case = negsuc 0; bits = 0x3ff0000000000000; rule = 0; place = 0 }
    ∷ record { case = pos 1; bits = 0x3ff0000000000000; rule = 0; place = 0 }
    ∷ record { case = pos 0; bits = 0; rule = 12; place = 0 }
    ∷ []
unfolding told told_case told_refusal rule_number place_number to_bits size
cases_told = refl

-- ---- the enclosing pair

abbrev enclosed : Float → Float → Result Enclosing Refusal
enclosed l u = Ok (record { lower = l; upper = u })

-- a double; what lies between two; -0; one end out of range, either way; and a fault of the call
pub pairs :
    map enclosed_of (one ∷ after_one false ∷ after_one true ∷ none true ∷ beyond false ∷ beyond true ∷ under ∷ shown false 1 1 (pos 0) ∷ [])
    ≡ enclosed (fin false 1 (pos 0)) (fin false 1 (pos 0))
    ∷ enclosed (fin false 1 (pos 0)) (fin false (2 ^ 52 + 1) (negsuc 51))
    ∷ enclosed (fin true (2 ^ 52 + 1) (negsuc 51)) (fin true 1 (pos 0))
    ∷ enclosed (fin true 0 (pos 0)) (fin true 0 (pos 0))
    ∷ Err (at DoubleTooLarge Call)
    ∷ Err (at DoubleTooLarge Call)
    ∷ Err (at DoubleTooSmall Call)
    ∷ Err (at Precision First)
    ∷ []
unfolding enclosed_of pair_of end_of alone_refusal first_refusal accepted precision_holds length_holds exponent_holds form_holds top_bit_holds spare_bits_hold in_doubles converted_in selected_in ranged_in double_case outside case_of ternary_of packed sign_bit double of_bits of_fields odd double_precision double_least double_most mode_of way digits signed chosen on_grid unit quotient size operand_of is_zero_kind counted mantissa last_weight value_in bias least_precision most_precision least_exponent most_exponent limbs_for spare_bits
pairs = refl

-- "the lower end's refusal is named first"
pub lower_first : pair_of (Err (at DoubleTooSmall Call)) (Err (at DoubleTooLarge Call)) ≡ Err (at DoubleTooSmall Call)
unfolding pair_of
lower_first = refl

-- ---- double to number

abbrev given : Bool → Kind → ℕ → ℤ → Result Number Refusal
given n k p e = Ok (record { negative = n; kind = k; precision = p; exponent = e })

-- the answer, and the target that held 7
abbrev reads : List ℕ → Float → Result Number Refusal × List ℕ
reads t d = (read_of (length t) d, read_limbs t d)

-- 1, -3/2, the smallest subnormal and three of it, the largest double, -0
pub reads_doubles :
    map (reads (7 ∷ [])) (fin false 1 (pos 0) ∷ fin true 3 (negsuc 0) ∷ fin false 1 (negsuc 1073) ∷ fin false 3 (negsuc 1073) ∷ fin false (2 ^ 53 - 1) (pos 971) ∷ fin true 0 (pos 0) ∷ [])
    ≡ (given false Regular 53 (pos 1), 2 ^ 63 ∷ [])
    ∷ (given true Regular 53 (pos 1), 3 * 2 ^ 62 ∷ [])
    ∷ (given false Regular 53 (negsuc 1072), 2 ^ 63 ∷ [])
    ∷ (given false Regular 53 (negsuc 1071), 3 * 2 ^ 62 ∷ [])
    ∷ (given false Regular 53 (pos 1024), (2 ^ 53 - 1) * 2 ^ 11 ∷ [])
    ∷ (given true Zero 53 (pos 0), 0 ∷ [])
    ∷ []
unfolding read_of read_limbs answered left_by read_refusal is_number is_nan is_finite to_bits size number_of_bits limbs_of_bits read_exponent exponent_of double_sign double_digits double_scale exponent_field fraction double_precision first_refusal accepted length_holds limbs_for bias
reads_doubles = refl

-- 3 before 14, with the target's place and the double's; the target stays
pub reads_refused :
    reads (7 ∷ 7 ∷ []) nan
    ∷ reads [] (fin false 1 (pos 0))
    ∷ reads (7 ∷ []) nan
    ∷ reads (7 ∷ []) (inf true)
    ∷ []
    ≡ (Err (at Limbs Target), 7 ∷ 7 ∷ [])
    ∷ (Err (at Limbs Target), [])
    ∷ (Err (at NoNumber First), 7 ∷ [])
    ∷ (Err (at NoNumber First), 7 ∷ [])
    ∷ []
unfolding read_of read_limbs answered left_by read_refusal is_number is_nan is_finite to_bits size exponent_field double_precision first_refusal accepted length_holds limbs_for
reads_refused = refl
