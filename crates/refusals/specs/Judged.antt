-- The tests of one operand or target at once, and the first place of a rule where one fails. Definitions only.
use Rattle.std.specs.Prelude.{ℕ, Bool, true, List, [], ◌∷◌, length, Result}
use Rattle.numbers.specs.Operand.{Operand}
use Rattle.refusals.specs.declared.Judged.{Judged}
use Rattle.checks.specs.declared.Refusal.{Refusal}
use Rattle.checks.specs.declared.Rule.{Rule}
use Rattle.checks.specs.declared.Rule.TheVariants.{Mode, Precision, Limbs, Exponent, Form}
use Rattle.checks.specs.declared.Place.TheVariants.{Call, First, Second, Target}
use Rattle.checks.specs.Check.{Test, test, first_refusal, precision_holds, length_holds, exponent_holds, form_holds}

-- what tests 2 to 5 say of an operand
unfoldable pub judged_of : Operand → Judged
judged_of x = record { precision = precision_holds x.precision; limbs = length_holds x.precision (length x.limbs); exponent = exponent_holds x; form = form_holds x }

-- a target has no exponent and no digits yet
unfoldable pub judged_target : ℕ → ℕ → Judged
judged_target p n = record { precision = precision_holds p; limbs = length_holds p n; exponent = true; form = true }

-- the tests of a rule, "(same order)": first, second, target
abbrev pub place_tests : Rule → Bool → Bool → Bool → List Test
place_tests r a b c = test a r First ∷ test b r Second ∷ test c r Target ∷ []

-- "in order of checking": number by number, and within a number first, second, target
unfoldable pub refusal_of : Bool → Judged → Judged → Judged → Result (Unit {0}) Refusal
refusal_of mode x y t =
    first_refusal
    (test mode Mode Call
    ∷ test x.precision Precision First
    ∷ test y.precision Precision Second
    ∷ test t.precision Precision Target
    ∷ test x.limbs Limbs First
    ∷ test y.limbs Limbs Second
    ∷ test t.limbs Limbs Target
    ∷ test x.exponent Exponent First
    ∷ test y.exponent Exponent Second
    ∷ test x.form Form First
    ∷ test y.form Form Second
    ∷ [])
