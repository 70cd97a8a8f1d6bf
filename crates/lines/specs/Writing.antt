-- What writing a stored line answers, and what it leaves in the room. Definitions only.
-- Document 01, "The stored line": "A writer checks 2, 3 for limbs, 4, 5, 3 for room"
use Rattle.std.specs.Prelude.{ℕ, List, [], ◌∷◌, ◌++◌, leb, length, drop, Result}
use Rattle.checks.specs.declared.Number.{Number}
use Rattle.checks.specs.declared.Rule.TheVariants.{Precision, Limbs, Exponent, Form}
use Rattle.checks.specs.declared.Place.TheVariants.{First, Target}
use Rattle.checks.specs.declared.Refusal.{Refusal}
use Rattle.checks.specs.Number.{operand_of}
use Rattle.checks.specs.Check.{test, first_refusal, answered, left_by, precision_holds, length_holds, exponent_holds, form_holds}
use Rattle.lines.specs.Line.{line_of}

-- of a number with its limbs, and a room of n bytes
unfoldable pub write_refusal : Number → List ℕ → ℕ → Result (Unit {0}) Refusal
write_refusal x l n =
    first_refusal
    (test (precision_holds x.precision) Precision First
    ∷ test (length_holds x.precision (length l)) Limbs First
    ∷ test (exponent_holds (operand_of x l)) Exponent First
    ∷ test (form_holds (operand_of x l)) Form First
    ∷ test (leb (length (line_of x l)) n) Limbs Target
    ∷ [])

-- "its answer is their count"
unfoldable pub written_of : Number → List ℕ → ℕ → Result ℕ Refusal
written_of x l n = answered (write_refusal x l n) (length (line_of x l))

-- bytes over the start of a room; the others stay
unfoldable pub onto : List ℕ → List ℕ → List ℕ
onto s room = s ++ drop (length s) room

-- "writes from the room's start and changes only the bytes it writes"; when refused "it writes nothing"
unfoldable pub room_after : Number → List ℕ → List ℕ → List ℕ
room_after x l room = left_by (write_refusal x l (length room)) (onto (line_of x l) room) room
