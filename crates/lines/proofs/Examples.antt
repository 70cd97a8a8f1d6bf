-- Stored lines written out: those of document 01's case, read and written, and the refusals in their order. Assumes nothing.
use mathlib.Core.Path.{◌≡◌, refl}
use mathlib.Core.Bool.{Bool, true, false}
use mathlib.Core.List.{List, [], ◌∷◌, map}
use Prim.Native.Nat.{ℕ, ◌-◌, ◌^◌}
use Prim.Native.String.{String}
use lib.IntN.{ℤ, pos, negsuc}
use lib.ListN.{length}
use Rattle.numbers.specs.Limits.{least_precision, most_precision, bias, counted, least_exponent, most_exponent, limbs_for}
use Rattle.numbers.specs.Operand.{spare_bits}
use Rattle.checks.specs.declared.Number.{Number}
use Rattle.checks.specs.declared.Rule.{Rule}
use Rattle.checks.specs.declared.Rule.TheVariants.{Precision, Limbs, Exponent, Form, LineSize, LineByte, LineKind}
use Rattle.checks.specs.declared.Place.{Place}
use Rattle.checks.specs.declared.Place.TheVariants.{First, Target}
use Rattle.checks.specs.declared.Refusal.{Refusal}
use Rattle.std.specs.Prelude.{Result, Ok, Err}
use Rattle.checks.specs.declared.Kind.{Kind}
use Rattle.checks.specs.declared.Kind.TheVariants.{Regular, Zero}
use Rattle.checks.specs.Number.{is_zero_kind, operand_of}
use Rattle.checks.specs.Check.{accepted, left_by, answered, first_refusal, precision_holds, length_holds, exponent_holds, top_bit_holds, spare_bits_hold, form_holds}
use Rattle.text.specs.Digits.{digit_of, all_digits, glyph_of, worth, numeral}
use Rattle.text.proofs.Bytes.{bytes}
use Rattle.lines.specs.Line.{kind_byte, twos_complement, head_digits, limb_digits, line_feed, line_of, shortest_line, line_size}
use Rattle.lines.specs.Reading.{field, kind_in, signed_of, negative_of, kind_of, number_in, limbs_in, operand_in, digits_hold, head_tests, limb_tests, head_refusal, read_refusal, head_of, read_of, limbs_read, target_after}
use Rattle.lines.specs.Writing.{write_refusal, written_of, onto, room_after}

abbrev given : Bool → Kind → ℕ → ℤ → Number
given n k p e = record { negative = n; kind = k; precision = p; exponent = e }

abbrev at : Rule → Place → Refusal
at rule place = record { rule = rule; place = place }

-- ---- writing

-- document 01's case: 1 in four digits, and 2^-5 in two; a negative number of two limbs; the zeros
pub lines_are :
    (line_of (given false Regular 4 (pos 1)) (2 ^ 63 ∷ []) ≡ bytes "000004000000018000000000000000\n")
    × (line_of (given false Regular 2 (negsuc 3)) (2 ^ 63 ∷ []) ≡ bytes "000002fffffffc8000000000000000\n")
    × (line_of (given true Regular 100 (negsuc 0)) (0x0123456780000000 ∷ 0xfedcba9876543210 ∷ []) ≡ bytes "010064fffffffffedcba98765432100123456780000000\n")
    × (line_of (given false Zero 2 (pos 0)) (5 ∷ []) ≡ bytes "02000200000000\n")
    × (line_of (given true Zero 4096 (pos 0)) [] ≡ bytes "03100000000000\n")
unfolding bytes line_of head_digits limb_digits line_feed kind_byte twos_complement numeral glyph_of is_zero_kind
lines_are = (refl, refl, refl, refl, refl)

-- what is written into a room, the count, and the room
abbrev written : Number → List ℕ → String → Result ℕ Refusal × List ℕ
written x l room = (written_of x l (length (bytes room)), room_after x l (bytes room))

abbrev bars : Rule → Place → Result ℕ Refusal
bars rule place = Err (at rule place)

-- every fault, and then one fewer each: precision, limbs, exponent, form, room; the room stays but for the bytes of the line
pub written_in_order :
    written (given false Regular 1 (pos (2 ^ 30))) [] "room"
    ∷ written (given false Regular 65 (pos (2 ^ 30))) (1 ∷ []) "room"
    ∷ written (given false Regular 65 (pos (2 ^ 30))) (1 ∷ 2 ∷ []) "room"
    ∷ written (given false Regular 65 (pos 0)) (1 ∷ 2 ∷ []) "room"
    ∷ written (given false Regular 65 (pos 0)) (0 ∷ 2 ^ 63 ∷ []) "room"
    ∷ written (given false Zero 2 (pos 0)) (5 ∷ []) "fourteen bytes"
    ∷ written (given false Zero 2 (pos 0)) (5 ∷ []) "fifteen bytes.."
    ∷ written (given false Zero 2 (pos 0)) (5 ∷ []) "seventeen bytes.."
    ∷ []
    ≡ (bars Precision First, bytes "room")
    ∷ (bars Limbs First, bytes "room")
    ∷ (bars Exponent First, bytes "room")
    ∷ (bars Form First, bytes "room")
    ∷ (bars Limbs Target, bytes "room")
    ∷ (bars Limbs Target, bytes "fourteen bytes")
    ∷ (Ok 15, bytes "02000200000000\n")
    ∷ (Ok 15, bytes "02000200000000\n..")
    ∷ []
unfolding bytes written_of room_after answered left_by onto write_refusal first_refusal accepted precision_holds length_holds exponent_holds form_holds top_bit_holds spare_bits_hold operand_of is_zero_kind counted bias least_precision most_precision least_exponent most_exponent limbs_for spare_bits line_of head_digits limb_digits line_feed kind_byte twos_complement numeral glyph_of
written_in_order = refl

-- ---- reading

-- a line read into a target of two limbs
abbrev read : String → Result Number Refusal × List ℕ
read line = (read_of 2 (bytes line), target_after (bytes line) (7 ∷ 7 ∷ []))

abbrev takes : Number → List ℕ → Result Number Refusal × List ℕ
takes x l = (Ok x, l)

-- the refusal, and the target as it was
abbrev refuses : Rule → Place → Result Number Refusal × List ℕ
refuses rule place = (Err (at rule place), 7 ∷ 7 ∷ [])

-- a negative number of two limbs, its exponent -1; the least and the most exponent; a zero, which sets the limbs to 0
pub lines_read :
    read "010064fffffffffedcba98765432100123456780000000\n"
    ∷ read "000041c000000180000000000000000000000000000000\n"
    ∷ read "0000413fffffff80000000000000008000000000000000\n"
    ∷ read "03004100000000\n"
    ∷ []
    ≡ takes (given true Regular 100 (negsuc 0)) (0x0123456780000000 ∷ 0xfedcba9876543210 ∷ [])
    ∷ takes (given false Regular 65 (negsuc (2 ^ 30 - 2))) (0 ∷ 2 ^ 63 ∷ [])
    ∷ takes (given false Regular 65 (pos (2 ^ 30 - 1))) (2 ^ 63 ∷ 2 ^ 63 ∷ [])
    ∷ takes (given true Zero 65 (pos 0)) (0 ∷ 0 ∷ [])
    ∷ []
unfolding bytes read_of target_after limbs_read limbs_in read_refusal head_tests limb_tests answered left_by number_in operand_in field kind_in signed_of negative_of kind_of digits_hold all_digits digit_of worth line_feed shortest_line line_size first_refusal accepted precision_holds length_holds exponent_holds form_holds top_bit_holds spare_bits_hold operand_of is_zero_kind counted bias least_precision most_precision least_exponent most_exponent limbs_for spare_bits
lines_read = refl

-- one fault fewer each time, in document 01's order: 14 bytes; a byte that is no digit, an LF within, a last byte that is no LF; the kind;
-- the precision; the exact size, of a regular number and of a zero; the exponent, of both; the target, for both; the top bit and a spare bit
pub reads_in_order :
    read "0400010000000\n"
    ∷ read "0400010000000G\n"
    ∷ read "04000100000000\n\n"
    ∷ read "040001000000000"
    ∷ read "04000100000000\n"
    ∷ read "00000140000000\n"
    ∷ read "00000240000000\n"
    ∷ read "020002400000000\n"
    ∷ read "000002400000000000000000000001\n"
    ∷ read "02000200000001\n"
    ∷ read "000002000000000000000000000001\n"
    ∷ read "02000200000000\n"
    ∷ read "0000410000000000000000000000018000000000000000\n"
    ∷ read "0000410000000080000000000000004000000000000000\n"
    ∷ []
    ≡ refuses LineSize First
    ∷ refuses LineByte First
    ∷ refuses LineByte First
    ∷ refuses LineByte First
    ∷ refuses LineKind First
    ∷ refuses Precision First
    ∷ refuses LineSize First
    ∷ refuses LineSize First
    ∷ refuses Exponent First
    ∷ refuses Exponent First
    ∷ refuses Limbs Target
    ∷ refuses Limbs Target
    ∷ refuses Form First
    ∷ refuses Form First
    ∷ []
unfolding bytes read_of target_after limbs_read limbs_in read_refusal head_tests limb_tests answered left_by number_in operand_in field kind_in signed_of negative_of kind_of digits_hold all_digits digit_of worth line_feed shortest_line line_size first_refusal accepted precision_holds length_holds exponent_holds form_holds top_bit_holds spare_bits_hold operand_of is_zero_kind counted bias least_precision most_precision least_exponent most_exponent limbs_for spare_bits
reads_in_order = refl

-- a head is read from a whole line, and the target and the form play no part
pub heads_read :
    map (λ (line : String). head_of (bytes line)) ("0000410000000000000000000000014000000000000000\n" ∷ "000002400000000000000000000001\n" ∷ [])
    ≡ Ok (given false Regular 65 (pos 0))
    ∷ Err (at Exponent First)
    ∷ []
unfolding bytes head_of head_refusal head_tests answered number_in operand_in field kind_in signed_of negative_of kind_of digits_hold all_digits digit_of worth line_feed shortest_line line_size first_refusal accepted precision_holds exponent_holds operand_of is_zero_kind counted bias least_precision most_precision least_exponent most_exponent limbs_for
heads_read = refl
