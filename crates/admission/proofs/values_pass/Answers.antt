-- `admission::values_pass`: one after the other. Assumes nothing.
use mathlib.Core.Bool.{false≢true}
use Rattle.admission.proofs.values_pass.Goals as goal

pub returns-then-not-value_passes : goal.returns-then-not-value_passes
returns-then-not-value_passes c = λ h. absurd (false≢true h)

pub returns : goal.returns
returns c = λ h. (c.value_passes.ensures.0 (c.if-not-value_passes.false), c.value_passes-2.ensures.0 h)
