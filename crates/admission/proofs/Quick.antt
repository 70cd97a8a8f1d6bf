-- What the tests of a regular number and of a target of one limb say, joined as the code has them. Assumes nothing.
use mathlib.Core.Path.{◌≡◌, refl, sym, ◌∙◌}
use mathlib.Core.Bool.{Bool, true, false, not, ◌&&◌, ◌||◌, true≢false}
use mathlib.Core.List.{[]}
use Prim.Native.Nat.{ℕ, ◌≤◌}
use native.Mathlib.Omega.{arith}
use lib.Dec.{leb, ltb, eqb}
use borrow.Author.Tests.{ltb-false, eqb-true, not-true}
use Rattle.limb.proofs.Tests.{both_true}
use Rattle.numbers.specs.Limits.{counted, least_precision, most_precision, limbs_for}
use Rattle.checks.specs.declared.Number.{Number}
use Rattle.checks.specs.Number.{is_zero_kind, operand_of}
use Rattle.checks.specs.Check.{exponent_holds}
use Rattle.checks.specs.Passes.{TargetPasses}
use Rattle.checks.proofs.Accepted.{range_precision, count_length}
use Rattle.checks.proofs.Tests.{regular_exponent}

pub ranged_told : (x : Number) (e : ℕ) {z : Bool} → e ≡ counted x.exponent → z ≡ is_zero_kind x.kind → ((leb 1098437885953 e && leb e 1100585369599) && not z) ≡ true → (is_zero_kind x.kind ≡ false) × (exponent_holds (operand_of x []) ≡ true)
ranged_told x e {z} h k t =
    let both = both_true _ _ t in
    let regular : is_zero_kind x.kind ≡ false = sym k ∙ not-true z both.1 in
    (regular, sym (regular_exponent x e regular h) ∙ both.0)

neither : (a b : Bool) → (a || b) ≡ false → (a ≡ false) × (b ≡ false)
neither true b h = absurd (true≢false h)
neither false b h = (refl, h)

-- a target of 2 to 62 digits has one limb
pub one_limb_passes : (p n : ℕ) → (ltb p 2 || ltb 62 p) ≡ false → eqb n 1 ≡ true → TargetPasses p n × (p ≤ 62)
unfolding least_precision most_precision limbs_for
one_limb_passes p n h e =
    let few = neither (ltb p 2) (ltb 62 p) h in
    let least = ltb-false p 2 few.0 in
    let most = ltb-false 62 p few.1 in
    let one = eqb-true n 1 e in
    (record { precision = range_precision p least (omega arith); limbs = count_length p n (omega arith) }, most)
