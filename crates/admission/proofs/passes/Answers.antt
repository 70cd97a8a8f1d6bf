-- `admission::passes`: the sizes, and then the value. Assumes nothing.
use mathlib.Core.Bool.{false≢true}
use Rattle.checks.specs.Number.{operand_of}
use Rattle.admission.proofs.passes.Goals as goal

pub returns-then-not-target_passes : goal.returns-then-not-target_passes
unfolding operand_of
returns-then-not-target_passes c = (λ h. absurd (false≢true h), λ _ t. c.target_passes.ensures.1 (c.if-not-target_passes.true) (record { precision = t.precision; limbs = t.limbs }))

pub value_passes-requires : goal.value_passes-requires
value_passes-requires c = c.target_passes.ensures.0 (c.if-not-target_passes.false)

pub returns : goal.returns
returns c = c.value_passes.ensures
