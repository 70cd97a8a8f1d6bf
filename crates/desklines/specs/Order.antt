-- The desk line: what is asked of two numbers. Definitions only.
-- Document 01, "The desk program": "four bytes in hexadecimal: operation (00 add, 01 subtract), target precision (two bytes), mode."
use Rattle.std.specs.Prelude.{ℕ, ◌+◌, ◌*◌, cond, List, [], ◌∷◌, leb, eqb, length, Result}
use Rattle.depth.specs.Depth.{Operation, plus, minus}
use Rattle.checks.specs.declared.Rule.TheVariants as rules
use Rattle.checks.specs.declared.Rule.TheVariants.{LineSize, LineByte}
use Rattle.checks.specs.declared.Place.TheVariants.{Target}
use Rattle.checks.specs.declared.Refusal.{Refusal}
use Rattle.checks.specs.Check.{test, first_refusal, answered}
use Rattle.lines.specs.Reading.{field, digits_hold}
use Rattle.desklines.specs.declared.order.Operation.{Operation as Asked}
use Rattle.desklines.specs.declared.order.Operation.TheVariants.{Add, Subtract}
use Rattle.desklines.specs.declared.order.Request.{Request}

-- two digits a byte, and LF
unfoldable pub order_size : ℕ
order_size = 2 * 4 + 1

-- "The desk line is checked by 8, 9, 11 in that order .. its place is 3."
unfoldable pub order_refusal : List ℕ → Result (Unit {0}) Refusal
order_refusal line =
    first_refusal
    (test (eqb (length line) order_size) LineSize Target
    ∷ test (digits_hold line) LineByte Target
    ∷ test (leb (field 0 2 line) 1) rules.Operation Target
    ∷ [])

-- "operation (00 add, 01 subtract)"
unfoldable pub operation_in : ℕ → Asked
operation_in n = cond (eqb n 1) Subtract Add

-- what the line asks, where it is accepted
unfoldable pub request_in : List ℕ → Request
request_in line = record { operation = operation_in (field 0 2 line); precision = field 2 4 line; mode = field 6 2 line }

-- what an accepted desk line asks, or its refusal
unfoldable pub order_of : List ℕ → Result Request Refusal
order_of line = answered (order_refusal line) (request_in line)

unfoldable pub operation_of : Asked → Operation
operation_of Add = plus
operation_of Subtract = minus
