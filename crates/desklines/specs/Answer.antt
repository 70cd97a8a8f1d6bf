-- What is printed for a group of three lines. Definitions only.
-- Document 01, "The desk program".
use Rattle.std.specs.Prelude.{ℕ, zero, suc, ◌+◌, ◌≡◌, cond, List, [], ◌∷◌, ◌++◌, ltb, ℤ, pos, negsuc, length, Result, Ok, Err}
use Rattle.numbers.specs.Limits.{limbs_for}
use Rattle.numbers.specs.Operand.{Operand}
use Rattle.rounding.specs.Mode.{mode_of}
use Rattle.checks.specs.declared.Rule.TheVariants.{LineSize}
use Rattle.checks.specs.declared.Place.{Place}
use Rattle.checks.specs.declared.Place.TheVariants.{First, Second}
use Rattle.checks.specs.declared.Refusal.{Refusal}
use Rattle.checks.specs.Refusal.{rule_number, place_number}
use Rattle.checks.specs.Number.{operand_of}
use Rattle.checks.specs.Check.{accepted, then, pair_refusal}
use Rattle.text.specs.Digits.{numeral}
use Rattle.lines.specs.Line.{line_feed, line_of, longest_line}
use Rattle.lines.specs.Reading.{number_in, limbs_read, read_refusal}
use Rattle.reports.specs.declared.report.Rounded.{Rounded}
use Rattle.reports.specs.declared.report.Sum.{Sum}
use Rattle.reports.specs.Summed.{Reported}
use Rattle.desklines.specs.declared.telling.Numbered.{Numbered}
use Rattle.desklines.specs.Order.{order_refusal, request_in, operation_of}

-- "A refusal prints one line: ee, number, place, a byte each"
unfoldable pub numbered_line : Numbered → List ℕ
numbered_line n = numeral 2 238 ++ numeral 2 n.rule ++ numeral 2 n.place ++ line_feed ∷ []

-- the numbers of a refusal
abbrev pub numbered : Refusal → Numbered
numbered r = record { rule = rule_number r.rule; place = place_number r.place }

abbrev pub refusal_line : Refusal → List ℕ
refusal_line r = numbered_line (numbered r)

-- "ternary (00, 01, ff)"
unfoldable pub ternary_byte : ℤ → ℕ
ternary_byte (pos zero) = 0
ternary_byte (pos (suc n)) = 1
ternary_byte (negsuc n) = 255

-- "ternary .., depth (two bytes), limbs of first, limbs of second (a byte each) as a line of its own"
unfoldable pub report_line : ℤ → Sum → List ℕ
report_line ternary s = numeral 2 (ternary_byte ternary) ++ numeral 4 s.depth ++ numeral 2 s.first ++ numeral 2 s.second ++ line_feed ∷ []

-- "It prints the result line, then .."; a sum that is refused by 6 or 7 prints its refusal
unfoldable pub answer_lines : Result Rounded Refusal → Sum → List ℕ → List ℕ
answer_lines (Ok a) s limbs = line_of a.number limbs ++ report_line a.ternary s
answer_lines (Err r) s limbs = refusal_line r

unfoldable pub sum_lines : Sum → List ℕ → List ℕ
sum_lines s limbs = answer_lines s.answer s limbs

-- ---- what the lines hold, and what is refused of them

-- the limbs of a line's number
unfoldable pub limbs_of_line : List ℕ → List ℕ
limbs_of_line line = limbs_read (limbs_for (number_in line).precision) line

unfoldable pub operand_of_line : List ℕ → Operand
operand_of_line line = operand_of (number_in line) (limbs_of_line line)

-- "a fault in a number's line has that line's place"
unfoldable pub placed : {A : Type 0} → Place → Result A Refusal → Result A Refusal
placed place (Ok a) = Ok a
placed place (Err r) = Err (record { rule = r.rule; place = place })

-- "A line over 1,039 bytes is 8"; every other is read, into as many limbs as its precision takes
unfoldable pub number_refusal : Place → List ℕ → Result (Unit {0}) Refusal
number_refusal place line =
    cond (ltb longest_line (length line)) (Err (record { rule = LineSize; place = place }))
    (placed place (read_refusal (limbs_for (number_in line).precision) line))

-- "The desk line is checked .. after both numbers, before the sum": the first of them that refuses
unfoldable pub lines_refusal : List ℕ → List ℕ → List ℕ → Result (Unit {0}) Refusal
lines_refusal first second third = then (number_refusal First first) (then (number_refusal Second second) (order_refusal third))

-- refusals 1 to 5 of the sum: of an accepted desk line's mode and precision
unfoldable pub sum_refusal : List ℕ → List ℕ → List ℕ → Result (Unit {0}) Refusal
sum_refusal first second third =
    pair_refusal (request_in third).mode (operand_of_line first) (operand_of_line second) (request_in third).precision (limbs_for (request_in third).precision)

unfoldable pub group_refusal : List ℕ → List ℕ → List ℕ → Result (Unit {0}) Refusal
group_refusal first second third = then (lines_refusal first second third) (sum_refusal first second third)

-- ---- the answer

-- the sum that a group asks for, with the limbs of its target
abbrev pub SumOf : List ℕ → List ℕ → List ℕ → List ℕ → Sum → Type 0
SumOf first second third limbs s =
    Reported (operation_of (request_in third).operation) (mode_of (request_in third).mode) (request_in third).precision (operand_of_line first) (operand_of_line second) limbs s

-- its lines are printed
pub record SumTold (first second third told : List ℕ) : Type 0 where
  pub sum : Sum
  pub limbs : List ℕ
  pub summed : SumOf first second third limbs sum
  pub told_is : told ≡ sum_lines sum limbs

-- what is printed: the refusal of the lines or of the sum's operands, or the sum
pub record Answered (first second third told : List ℕ) : Type 0 where
  pub refused : (r : Refusal) → group_refusal first second third ≡ Err r → told ≡ refusal_line r
  pub summed : group_refusal first second third ≡ accepted → SumTold first second third told

-- ternary value 2, depth 4, limbs 2 and 2, LF
unfoldable pub report_size : ℕ
report_size = 2 + 4 + 2 + 2 + 1

-- no answer is longer
unfoldable pub longest_answer : ℕ
longest_answer = longest_line + report_size
