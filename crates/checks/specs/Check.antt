-- Refusals 1 to 5, in their one order. Definitions only.
-- Document 01, "Refusal numbers, in order of checking": number by number, and within a number first, second, target.
use Rattle.std.specs.Prelude.{ℕ, ◌-◌, ◌%◌, ◌^◌, Bool, true, cond, ◌&&◌, List, [], ◌∷◌, leb, eqb, length, get_or, Result, Ok, Err}
use Rattle.numbers.specs.Limits.{least_precision, most_precision, bias, least_exponent, most_exponent, limbs_for}
use Rattle.numbers.specs.Operand.{Operand, spare_bits}
use Rattle.checks.specs.declared.Rule.{Rule}
use Rattle.checks.specs.declared.Rule.TheVariants.{Mode, Precision, Limbs, Exponent, Form}
use Rattle.checks.specs.declared.Place.{Place}
use Rattle.checks.specs.declared.Place.TheVariants.{Call, First, Second, Target}
use Rattle.checks.specs.declared.Refusal.{Refusal}

-- nothing is refused
unfoldable pub accepted : Result (Unit {0}) Refusal
accepted = Ok tt

-- a test that must hold, and the refusal where it does not
pub record Test : Type 0 where
  pub holds : Bool
  pub rule : Rule
  pub place : Place

abbrev pub test : Bool → Rule → Place → Test
test b n p = record { holds = b; rule = n; place = p }

-- the first test that fails gives the refusal
unfoldable pub first_refusal : List Test → Result (Unit {0}) Refusal
first_refusal [] = accepted
first_refusal (t ∷ ts) = cond t.holds (first_refusal ts) (Err (record { rule = t.rule; place = t.place }))

-- a refusal, or what follows where nothing is refused
abbrev pub then : {A : Type 0} → Result (Unit {0}) Refusal → Result A Refusal → Result A Refusal
then (Ok u) rest = rest
then (Err r) rest = Err r

-- what a call answers: the refusal, or what it is asked for where nothing is refused
unfoldable pub answered : {A : Type 0} → Result (Unit {0}) Refusal → A → Result A Refusal
answered (Ok u) a = Ok a
answered (Err r) a = Err r

-- what is left where it was written, or was refused
unfoldable pub left_by : {A : Type 0} → Result (Unit {0}) Refusal → A → A → A
left_by (Ok u) new old = new
left_by (Err r) new old = old

-- 1: "mode above 3"
unfoldable pub mode_holds : ℕ → Bool
mode_holds mode = leb mode 3

-- 2: "a precision out of range"
unfoldable pub precision_holds : ℕ → Bool
precision_holds p = leb least_precision p && leb p most_precision

-- 3: "a limb slice not of L limbs"
unfoldable pub length_holds : ℕ → ℕ → Bool
length_holds p n = eqb n (limbs_for p)

-- 4: "regular exponent out of range, or a zero's exponent not 0"
unfoldable pub exponent_holds : Operand → Bool
exponent_holds x = cond x.is_zero (eqb x.exponent bias) (leb least_exponent x.exponent && leb x.exponent most_exponent)

-- 5: "regular number with top bit 0 or a spare bit 1": two tests; a zero's limbs are never looked at
unfoldable pub top_bit_holds : List ℕ → Bool
top_bit_holds l = leb (2 ^ 63) (get_or l (length l - 1) 0)

unfoldable pub spare_bits_hold : ℕ → List ℕ → Bool
spare_bits_hold p l = eqb (get_or l 0 0 % 2 ^ spare_bits p) 0

unfoldable pub form_holds : Operand → Bool
form_holds x = cond x.is_zero true (top_bit_holds x.limbs && spare_bits_hold x.precision x.limbs)

-- of two operands and a target of n limbs (add, subtract)
unfoldable pub pair_refusal : ℕ → Operand → Operand → ℕ → ℕ → Result (Unit {0}) Refusal
pair_refusal mode x y p n =
    first_refusal
    (test (mode_holds mode) Mode Call
    ∷ test (precision_holds x.precision) Precision First
    ∷ test (precision_holds y.precision) Precision Second
    ∷ test (precision_holds p) Precision Target
    ∷ test (length_holds x.precision (length x.limbs)) Limbs First
    ∷ test (length_holds y.precision (length y.limbs)) Limbs Second
    ∷ test (length_holds p n) Limbs Target
    ∷ test (exponent_holds x) Exponent First
    ∷ test (exponent_holds y) Exponent Second
    ∷ test (form_holds x) Form First
    ∷ test (form_holds y) Form Second
    ∷ [])

-- of one operand and a target of n limbs (re-round)
unfoldable pub single_refusal : ℕ → Operand → ℕ → ℕ → Result (Unit {0}) Refusal
single_refusal mode x p n =
    first_refusal
    (test (mode_holds mode) Mode Call
    ∷ test (precision_holds x.precision) Precision First
    ∷ test (precision_holds p) Precision Target
    ∷ test (length_holds x.precision (length x.limbs)) Limbs First
    ∷ test (length_holds p n) Limbs Target
    ∷ test (exponent_holds x) Exponent First
    ∷ test (form_holds x) Form First
    ∷ [])

-- of two operands (compare)
unfoldable pub compared_refusal : Operand → Operand → Result (Unit {0}) Refusal
compared_refusal x y =
    first_refusal
    (test (precision_holds x.precision) Precision First
    ∷ test (precision_holds y.precision) Precision Second
    ∷ test (length_holds x.precision (length x.limbs)) Limbs First
    ∷ test (length_holds y.precision (length y.limbs)) Limbs Second
    ∷ test (exponent_holds x) Exponent First
    ∷ test (exponent_holds y) Exponent Second
    ∷ test (form_holds x) Form First
    ∷ test (form_holds y) Form Second
    ∷ [])

-- of one operand under a mode (number to double)
unfoldable pub converted_refusal : ℕ → Operand → Result (Unit {0}) Refusal
converted_refusal mode x =
    first_refusal
    (test (mode_holds mode) Mode Call
    ∷ test (precision_holds x.precision) Precision First
    ∷ test (length_holds x.precision (length x.limbs)) Limbs First
    ∷ test (exponent_holds x) Exponent First
    ∷ test (form_holds x) Form First
    ∷ [])

-- of one operand alone (the enclosing pair)
unfoldable pub alone_refusal : Operand → Result (Unit {0}) Refusal
alone_refusal x =
    first_refusal
    (test (precision_holds x.precision) Precision First
    ∷ test (length_holds x.precision (length x.limbs)) Limbs First
    ∷ test (exponent_holds x) Exponent First
    ∷ test (form_holds x) Form First
    ∷ [])
