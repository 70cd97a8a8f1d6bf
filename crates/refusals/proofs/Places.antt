-- The ordered tests, taken a rule at a time: a rule's first place stands for its tests. Assumes nothing.
use mathlib.Core.Path.{◌≡◌, refl, ap, ◌∙◌}
use mathlib.Core.Bool.{Bool, true, false, cond}
use mathlib.Core.List.{List, [], ◌∷◌, ◌++◌}
use Prim.Native.Nat.{ℕ}
use lib.Dec.{leb}
use lib.ListN.{length}
use Rattle.numbers.specs.Operand.{Operand}
use Rattle.refusals.specs.declared.Judged.{Judged}
use Rattle.checks.specs.declared.Refusal.{Refusal}
use Rattle.std.specs.Prelude.{Result}
use Rattle.checks.specs.declared.Rule.{Rule}
use Rattle.checks.specs.declared.Rule.TheVariants.{Mode, Precision, Limbs, Exponent, Form}
use Rattle.checks.specs.declared.Place.TheVariants.{Call, First, Second, Target}
use Rattle.checks.proofs.Tables.{chained}
use Rattle.checks.specs.Check.{then, Test, test, first_refusal, mode_holds, pair_refusal, single_refusal, compared_refusal, converted_refusal, alone_refusal}
use Rattle.refusals.specs.Judged.{judged_of, judged_target, place_tests, refusal_of}

-- a rule is passed where it holds in all places; else its first place is named
pub by_place : (r : Rule) (a b c : Bool) (ts : List Test) → first_refusal (test a r First ∷ test b r Second ∷ test c r Target ∷ ts) ≡ then (first_refusal (place_tests r a b c)) (first_refusal ts)
by_place r a b c ts = chained (place_tests r a b c) ts

pub places_chained : (r : Rule) (a b c : Bool) → first_refusal (place_tests r a b c) ≡ then (first_refusal (test a r First ∷ [])) (then (first_refusal (test b r Second ∷ [])) (first_refusal (test c r Target ∷ [])))
places_chained r a b c = chained (test a r First ∷ []) (test b r Second ∷ test c r Target ∷ []) ∙ ap (then (first_refusal (test a r First ∷ []))) (chained (test b r Second ∷ []) (test c r Target ∷ []))

-- a test that holds is passed
pub refusal_by_place : (mode : Bool) (x y t : Judged) → refusal_of mode x y t
    ≡ then (first_refusal (test mode Mode Call ∷ []))
    (then (first_refusal (place_tests Precision x.precision y.precision t.precision))
    (then (first_refusal (place_tests Limbs x.limbs y.limbs t.limbs))
    (then (first_refusal (place_tests Exponent x.exponent y.exponent true))
    (first_refusal (place_tests Form x.form y.form true)))))
unfolding refusal_of first_refusal
refusal_by_place mode x y t =
    let forms = place_tests Form x.form y.form true in
    let exponents = place_tests Exponent x.exponent y.exponent true in
    let limbs = place_tests Limbs x.limbs y.limbs t.limbs in
    let precisions = place_tests Precision x.precision y.precision t.precision in
    chained (test mode Mode Call ∷ []) (precisions ++ (limbs ++ (exponents ++ forms)))
    ∙ ap (then (first_refusal (test mode Mode Call ∷ [])))
    (chained precisions (limbs ++ (exponents ++ forms))
    ∙ ap (then (first_refusal precisions))
    (chained limbs (exponents ++ forms)
    ∙ ap (then (first_refusal limbs))
    (chained exponents forms)))

-- ---- the tables of document 01, each from the tests of its operands and its target

pub pair_refusal_lem : {a b t : Judged} {r : Result (Unit {0}) Refusal} (mode : ℕ) (x y : Operand) (p n : ℕ) → r ≡ refusal_of (leb mode 3) a b t → a ≡ judged_of x → b ≡ judged_of y → t ≡ judged_target p n → r ≡ pair_refusal mode x y p n
unfolding pair_refusal refusal_of judged_of judged_target mode_holds
pair_refusal_lem mode x y p n h i j k = h ∙ rw (i, j, k)

-- a test that was passed is passed again
again : (a : Bool) (r s t : Result (Unit {0}) Refusal) → cond a (cond a r s) t ≡ cond a r t
again true r s t = refl
again false r s t = refl

later : (a b : Bool) (r s t u : Result (Unit {0}) Refusal) → cond a (cond b (cond a r s) t) u ≡ cond a (cond b r t) u
later true b r s t u = refl
later false b r s t u = refl

-- the first operand in the place of the second, or of the target, breaks no rule there that it did not break in its own place
pub pair_single : (mode : ℕ) (x : Operand) (p n : ℕ) → pair_refusal mode x x p n ≡ single_refusal mode x p n
unfolding pair_refusal single_refusal first_refusal
pair_single mode x p n = simp again

pub pair_compared : (x y : Operand) → pair_refusal 0 x y x.precision (length x.limbs) ≡ compared_refusal x y
unfolding pair_refusal compared_refusal mode_holds first_refusal
pair_compared x y = simp later

pub pair_converted : (mode : ℕ) (x : Operand) → pair_refusal mode x x x.precision (length x.limbs) ≡ converted_refusal mode x
unfolding pair_refusal converted_refusal first_refusal
pair_converted mode x = simp again

pub pair_alone : (x : Operand) → pair_refusal 0 x x x.precision (length x.limbs) ≡ alone_refusal x
unfolding pair_refusal alone_refusal mode_holds first_refusal
pair_alone x = simp again
