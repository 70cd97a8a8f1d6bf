-- `admission::value_passes`: the tests one after the other; an operand of which one fails does not pass. Assumes nothing.
use mathlib.Core.Path.{◌≡◌, sym, ◌∙◌}
use mathlib.Core.Bool.{true, false≢true, true≢false}
use mathlib.Core.List.{[]}
use Rattle.checks.specs.Number.{operand_of}
use Rattle.checks.specs.Check.{exponent_holds}
use Rattle.checks.proofs.Passing.{some_limb, zero_passes, regular_passes, exponent_fails, limbs_fail}
use Rattle.admission.proofs.value_passes.Goals as goal

pub returns-then-not-exponent_holds : goal.returns-then-not-exponent_holds
returns-then-not-exponent_holds c = (λ h. absurd (false≢true h), λ _. exponent_fails _ _ (sym c.exponent_holds.ensures ∙ c.if-not-exponent_holds.true))

pub returns-then-is_zero : goal.returns-then-is_zero
returns-then-is_zero c =
    let in_range : exponent_holds (operand_of c.args.x []) ≡ true = sym c.exponent_holds.ensures ∙ c.if-not-exponent_holds.false in (
      λ _. zero_passes _ _ c.requires in_range (sym c.is_zero.ensures ∙ c.if-is_zero.true),
      λ h. absurd (true≢false h),
    )

pub limbs_pass-requires : goal.limbs_pass-requires
limbs_pass-requires c = some_limb _ _ c.requires

pub returns : goal.returns
returns c =
    let in_range : exponent_holds (operand_of c.args.x []) ≡ true = sym c.exponent_holds.ensures ∙ c.if-not-exponent_holds.false in
    let regular = sym c.is_zero.ensures ∙ c.if-is_zero.false in (
      λ h. regular_passes _ _ c.requires in_range regular (sym c.limbs_pass.ensures ∙ h),
      λ h. limbs_fail _ _ regular (sym c.limbs_pass.ensures ∙ h),
    )
