-- What reading a stored line answers, and what it leaves in the target. Definitions only.
-- Document 01, "The stored line": "Reading checks, in order: at least 15 bytes (8), 9, 10, 2, exact size (8), 4, 3, 5."
use Rattle.std.specs.Prelude.{ℕ, zero, suc, ◌+◌, ◌-◌, ◌*◌, ◌^◌, Bool, cond, ◌&&◌, ◌||◌, List, [], ◌∷◌, ◌++◌, leb, ltb, eqb, ℤ, pos, length, take, drop, get_or, replicate, Result}
use Rattle.std.proofs.Math.IntN.{sub_ℕ}
use Rattle.numbers.specs.Limits.{limbs_for}
use Rattle.numbers.specs.Operand.{Operand}
use Rattle.checks.specs.declared.Number.{Number}
use Rattle.checks.specs.declared.Rule.TheVariants.{Precision, Limbs, Exponent, Form, LineSize, LineByte, LineKind}
use Rattle.checks.specs.declared.Place.TheVariants.{First, Target}
use Rattle.checks.specs.declared.Refusal.{Refusal}
use Rattle.checks.specs.declared.Kind.{Kind}
use Rattle.checks.specs.declared.Kind.TheVariants.{Regular, Zero}
use Rattle.checks.specs.Number.{is_zero_kind, operand_of}
use Rattle.checks.specs.Check.{Test, test, first_refusal, answered, left_by, precision_holds, length_holds, exponent_holds, form_holds}
use Rattle.text.specs.Digits.{all_digits, worth}
use Rattle.lines.specs.Line.{line_feed, shortest_line, line_size}

-- ---- what stands in a line

-- the whole number of n digits from a place on
unfoldable pub field : ℕ → ℕ → List ℕ → ℕ
field at n line = worth (take n (drop at line))

unfoldable pub kind_in : List ℕ → ℕ
kind_in line = field 0 2 line

-- two's complement: from 2 ^ 31 on a word stands for itself less 2 ^ 32
unfoldable pub signed_of : ℕ → ℤ
signed_of w = cond (ltb w (2 ^ 31)) (pos w) (sub_ℕ w (2 ^ 32))

-- "00 positive, 01 negative, 02 +0, 03 −0"
unfoldable pub negative_of : ℕ → Bool
negative_of k = eqb k 1 || eqb k 3

unfoldable pub kind_of : ℕ → Kind
kind_of k = cond (ltb k 2) Regular Zero

unfoldable pub number_in : List ℕ → Number
number_in line =
    record { negative = negative_of (kind_in line); kind = kind_of (kind_in line); precision = field 2 4 line; exponent = signed_of (field 6 8 line) }

-- n limbs from digit 14 on, top first: lowest first, the first is the last of them
unfoldable pub limbs_in : ℕ → List ℕ → List ℕ
limbs_in zero line = []
limbs_in (suc n) line = field (14 + 16 * n) 16 line ∷ limbs_in n line

unfoldable pub operand_in : List ℕ → Operand
operand_in line = operand_of (number_in line) (limbs_in (limbs_for (number_in line).precision) line)

-- ---- the checks, in their order

-- 9: "line byte not 0-9 or a-f, or last byte not LF"
unfoldable pub digits_hold : List ℕ → Bool
digits_hold line = eqb (get_or line (length line - 1) 0) line_feed && all_digits (take (length line - 1) line)

unfoldable pub head_tests : List ℕ → List Test
head_tests line =
    test (leb shortest_line (length line)) LineSize First
    ∷ test (digits_hold line) LineByte First
    ∷ test (leb (kind_in line) 3) LineKind First
    ∷ test (precision_holds (number_in line).precision) Precision First
    ∷ test (eqb (length line) (line_size (number_in line))) LineSize First
    ∷ test (exponent_holds (operand_in line)) Exponent First
    ∷ []

-- into a target of n limbs
unfoldable pub limb_tests : ℕ → List ℕ → List Test
limb_tests n line =
    test (length_holds (number_in line).precision n) Limbs Target
    ∷ test (form_holds (operand_in line)) Form First
    ∷ []

unfoldable pub head_refusal : List ℕ → Result (Unit {0}) Refusal
head_refusal line = first_refusal (head_tests line)

unfoldable pub read_refusal : ℕ → List ℕ → Result (Unit {0}) Refusal
read_refusal n line = first_refusal (head_tests line ++ limb_tests n line)

-- ---- the answer

-- the number without its limbs
unfoldable pub head_of : List ℕ → Result Number Refusal
head_of line = answered (head_refusal line) (number_in line)

-- the whole number, into a target of n limbs
unfoldable pub read_of : ℕ → List ℕ → Result Number Refusal
read_of n line = answered (read_refusal n line) (number_in line)

-- "A zero read sets the target limbs to 0."
unfoldable pub limbs_read : ℕ → List ℕ → List ℕ
limbs_read n line = cond (is_zero_kind (number_in line).kind) (replicate n 0) (limbs_in n line)

-- the target afterwards; refused, it is as it was
unfoldable pub target_after : List ℕ → List ℕ → List ℕ
target_after line target =
    left_by (read_refusal (length target) line) (limbs_read (length target) line) target
