-- Groups and inputs of the desk written out: desk lines and their refusals, what is printed, inputs cut into lines, and document 01's case, from its three lines and from the whole input. Assumes nothing.
use mathlib.Core.Path.{◌≡◌, refl, ap, ◌∙◌, sym, subst}
use mathlib.Core.Bool.{Bool, true, false}
use mathlib.Core.List.{List, [], ◌∷◌, map, ◌++◌, append-nil}
use Prim.Native.Nat.{ℕ, ◌+◌, ◌^◌}
use Prim.Native.String.{String}
use lib.IntN.{ℤ, pos, negsuc}
use lib.ListN.{length, replicate}
use Rattle.numbers.specs.Limits.{least_precision, most_precision, bias, counted, least_exponent, most_exponent, limbs_for}
use Rattle.numbers.specs.Operand.{spare_bits}
use Rattle.rounding.specs.Mode.{mode_of}
use Rattle.depth.specs.Depth.{plus, minus}
use Rattle.checks.specs.declared.Rule.{Rule}
use Rattle.checks.specs.declared.Rule.TheVariants as rules
use Rattle.checks.specs.declared.Place.{Place}
use Rattle.checks.specs.declared.Place.TheVariants.{Call, First, Second, Target}
use Rattle.checks.specs.declared.Refusal.{Refusal}
use Rattle.checks.specs.Refusal.{rule_number, place_number}
use Rattle.checks.specs.declared.Kind.TheVariants.{Regular}
use Rattle.checks.specs.Number.{is_zero_kind, operand_of}
use Rattle.checks.specs.Check.{accepted, answered, first_refusal, mode_holds, precision_holds, length_holds, exponent_holds, top_bit_holds, spare_bits_hold, form_holds, pair_refusal}
use Rattle.text.specs.Digits.{digit_of, all_digits, glyph_of, worth, numeral}
use Rattle.text.proofs.Bytes.{bytes}
use Rattle.lines.specs.Line.{kind_byte, twos_complement, head_digits, limb_digits, line_feed, line_of, shortest_line, line_size, longest_line}
use Rattle.lines.specs.Reading.{field, kind_in, signed_of, negative_of, kind_of, number_in, limbs_in, operand_in, digits_hold, head_tests, limb_tests, read_refusal, limbs_read}
use Rattle.reports.specs.declared.report.Rounded.{Rounded}
use Rattle.reports.specs.declared.report.Sum.{Sum}
use Rattle.sums.proofs.Examples.{case_reported}
use Rattle.std.specs.Prelude.{Result, Ok, Err}
use Rattle.desklines.specs.declared.order.Operation.{Operation as Asked}
use Rattle.desklines.specs.declared.order.Operation.TheVariants.{Add, Subtract}
use Rattle.desklines.specs.declared.order.Request.{Request}
use Rattle.desklines.specs.Order.{order_size, order_refusal, operation_in, request_in, operation_of, order_of}
use Rattle.desklines.specs.Answer.{numbered_line, refusal_line, ternary_byte, report_line, answer_lines, sum_lines, limbs_of_line, operand_of_line, placed, number_refusal, lines_refusal, sum_refusal, group_refusal, Answered}
use Rattle.cutting.specs.Lines.{ends_line, before, lines_of, line_room, cut_line}
use Rattle.stream.specs.Desk.{Printed, nothing, no_second, no_third, group, Desk, cut_short}

abbrev at : Rule → Place → Refusal
at rule place = record { rule = rule; place = place }

abbrev bars : Rule → Place → Result (Unit {0}) Refusal
bars rule place = Err (at rule place)

-- ---- the desk line

abbrev asks : Asked → ℕ → ℕ → Result Request Refusal
asks operation p mode = Ok (record { operation = operation; precision = p; mode = mode })

-- what it asks: add and subtract, the precision in two bytes, the mode last
pub orders_read :
    (map (λ (line : String). order_of (bytes line)) ("00000400\n" ∷ "01100003\n" ∷ []) ≡ asks Add 4 0 ∷ asks Subtract 4096 3 ∷ [])
    × (map operation_of (Add ∷ Subtract ∷ []) ≡ plus ∷ minus ∷ [])
unfolding bytes order_of answered request_in operation_in operation_of order_refusal order_size first_refusal accepted field digits_hold all_digits digit_of worth line_feed
orders_read = (refl, refl)

-- its refusals, one fault fewer each: the size, a byte that is no digit, a last byte that is no LF, the operation; a mode and a precision are judged later
pub orders_in_order :
    map (λ (line : String). order_refusal (bytes line)) ("0200G40" ∷ "02000400" ∷ "0200040000\n" ∷ "0200G400\n" ∷ "020004000" ∷ "02000400\n" ∷ "00000009\n" ∷ [])
    ≡ bars rules.LineSize Target ∷ bars rules.LineSize Target ∷ bars rules.LineSize Target ∷ bars rules.LineByte Target ∷ bars rules.LineByte Target ∷ bars rules.Operation Target ∷ accepted ∷ []
unfolding bytes order_refusal order_size first_refusal accepted field digits_hold all_digits digit_of worth line_feed
orders_in_order = refl

-- ---- what is printed

pub refusals_printed : map refusal_line (at rules.LineSize Second ∷ at rules.DoubleTooLarge Call ∷ []) ≡ bytes "ee0802\n" ∷ bytes "ee0c00\n" ∷ []
unfolding bytes numbered_line rule_number place_number numeral glyph_of line_feed
refusals_printed = refl

pub ternaries_printed : map ternary_byte (negsuc 0 ∷ pos 0 ∷ pos 1 ∷ []) ≡ 0xff ∷ 0 ∷ 1 ∷ []
unfolding ternary_byte
ternaries_printed = refl

-- a sum's two lines, depth 258 and limbs 3 and 4; and one that is refused
abbrev told : Result Rounded Refusal → Sum
told answer = record { depth = 258; first = 3; answer = answer; second = 4 }

abbrev rounded : Rounded
rounded = record { number = record { negative = true; kind = Regular; precision = 4; exponent = pos 1 }; ternary = pos 1 }

pub sums_printed :
    (sum_lines (told (Ok rounded)) (2 ^ 63 ∷ []) ≡ bytes "010004000000018000000000000000\n0101020304\n")
    × (sum_lines (told (Err (at rules.TooSmall Target))) (2 ^ 63 ∷ []) ≡ bytes "ee0703\n")
unfolding bytes sum_lines answer_lines report_line numbered_line rule_number place_number ternary_byte line_of head_digits limb_digits line_feed kind_byte twos_complement numeral glyph_of is_zero_kind
sums_printed = (refl, refl)

-- ---- the order of a group's refusals

-- the first line, the second, the desk line, the mode, the target's precision; a fault in a line has that line's place
abbrev refusal_of : String → String → String → Result (Unit {0}) Refusal
refusal_of a b c = group_refusal (bytes a) (bytes b) (bytes c)

pub groups_in_order :
    refusal_of "04000200000000\n" "short\n" "02000105\n"
    ∷ refusal_of "02000200000000\n" "short\n" "02000105\n"
    ∷ refusal_of "02000200000000\n" "03000200000001\n" "02000105\n"
    ∷ refusal_of "02000200000000\n" "03000200000000\n" "02000105\n"
    ∷ refusal_of "02000200000000\n" "03000200000000\n" "00000105\n"
    ∷ refusal_of "02000200000000\n" "03000200000000\n" "00000103\n"
    ∷ refusal_of "02000200000000\n" "03000200000000\n" "00000203\n"
    ∷ []
    ≡ bars rules.LineKind First ∷ bars rules.LineSize Second ∷ bars rules.Exponent Second ∷ bars rules.Operation Target ∷ bars rules.Mode Call ∷ bars rules.Precision Target ∷ accepted ∷ []
unfolding bytes group_refusal lines_refusal sum_refusal placed number_refusal order_refusal order_of answered request_in operation_in order_size longest_line read_refusal head_tests limb_tests number_in operand_in operand_of_line limbs_of_line limbs_read limbs_in field kind_in signed_of negative_of kind_of digits_hold all_digits digit_of worth line_feed shortest_line line_size pair_refusal first_refusal accepted mode_holds precision_holds length_holds exponent_holds form_holds operand_of is_zero_kind counted bias least_precision most_precision least_exponent most_exponent limbs_for spare_bits
groups_in_order = refl

-- ---- the longest line

-- 1 / 2 in 4,096 digits: a line of 1,039 bytes
abbrev longest : List ℕ
longest = bytes "001000000000008" ++ replicate 1023 48 ++ bytes "\n"

-- it is read; a line of 1,040 bytes is 8 at its place, whatever stands in it
pub longest_lines : (length longest ≡ 1039) × (number_refusal Second longest ≡ accepted) × (number_refusal Second (replicate 1040 48) ≡ bars rules.LineSize Second)
unfolding bytes placed number_refusal longest_line read_refusal head_tests limb_tests number_in operand_in limbs_in field kind_in signed_of negative_of kind_of digits_hold all_digits digit_of worth line_feed shortest_line line_size first_refusal accepted precision_holds length_holds exponent_holds form_holds top_bit_holds spare_bits_hold operand_of is_zero_kind counted bias least_precision most_precision least_exponent most_exponent limbs_for spare_bits
longest_lines = (refl, refl, refl)

-- ---- document 01's case, whole

pub case_whole : (out : List ℕ) → Answered (bytes "000004000000018000000000000000\n") (bytes "000002fffffffc8000000000000000\n") (bytes "00000400\n") out → out ≡ bytes "000004000000018000000000000000\nff00010101\n"
unfolding bytes group_refusal lines_refusal sum_refusal placed number_refusal order_refusal order_of answered request_in operation_in operation_of mode_of order_size longest_line read_refusal head_tests limb_tests number_in operand_in operand_of_line limbs_of_line limbs_read limbs_in field kind_in signed_of negative_of kind_of digits_hold all_digits digit_of worth line_feed shortest_line line_size pair_refusal first_refusal accepted mode_holds precision_holds length_holds exponent_holds form_holds top_bit_holds spare_bits_hold operand_of is_zero_kind counted bias least_precision most_precision least_exponent most_exponent limbs_for spare_bits sum_lines answer_lines report_line ternary_byte line_of head_digits limb_digits kind_byte twos_complement numeral glyph_of
case_whole out h =
    let t = h.summed refl in
    let c = case_reported t.limbs t.sum t.summed in
    t.told_is ∙ ap (λ (s : Sum). sum_lines s t.limbs) c.0 ∙ ap (sum_lines (record { depth = 1; first = 1; answer = Ok (record { number = record { negative = false; kind = Regular; precision = 4; exponent = pos 1 }; ternary = negsuc 0 }); second = 1 })) c.1

-- ---- an input, cut into lines

-- each line with its LF, an empty one too; what follows the last LF is a line
pub lines_cut : map (λ (input : String). lines_of (bytes input)) ("" ∷ "a\nbc\n" ∷ "a\nbc" ∷ "\n\n" ∷ [])
    ≡ []
    ∷ (bytes "a\n" ∷ bytes "bc\n" ∷ [])
    ∷ (bytes "a\n" ∷ bytes "bc" ∷ [])
    ∷ (bytes "\n" ∷ bytes "\n" ∷ [])
    ∷ []
unfolding bytes lines_of before ends_line line_feed
lines_cut = refl

-- a line is kept up to 1,040 bytes, one more than the longest
pub lines_kept : (line_room ≡ 1040) × (length (cut_line (replicate 1041 48)) ≡ 1040)
unfolding cut_line line_room longest_line shortest_line limbs_for most_precision
lines_kept = (refl, refl)

-- ---- what is printed for an input

-- nothing for no input; 8 at the first line that is missing, whatever the others hold
pub printed_empty : Desk (bytes "") (bytes "")
unfolding bytes lines_of
printed_empty = nothing

pub printed_one_line : Desk (bytes "no number\n") (bytes "ee0802\n")
unfolding bytes lines_of before ends_line line_feed cut_short numbered_line rule_number place_number numeral glyph_of
printed_one_line = no_second (bytes "no number\n")

pub printed_two_lines : Desk (bytes "\n02000200000000") (bytes "ee0803\n")
unfolding bytes lines_of before ends_line line_feed cut_short numbered_line rule_number place_number numeral glyph_of
printed_two_lines = no_third (bytes "\n") (bytes "02000200000000")

-- what is printed for three lines is their group's answer
one_group : {a b c out : List ℕ} → Printed (a ∷ b ∷ c ∷ []) out → Answered a b c out
one_group {a} {b} {c} (group {told = t} h nothing) = subst (Answered a b c) (sym (append-nil t)) h

pub case_printed : (out : List ℕ) → Desk (bytes "000004000000018000000000000000\n000002fffffffc8000000000000000\n00000400\n") out → out ≡ bytes "000004000000018000000000000000\nff00010101\n"
unfolding bytes lines_of before ends_line line_feed
case_printed out h = case_whole out (one_group h)
