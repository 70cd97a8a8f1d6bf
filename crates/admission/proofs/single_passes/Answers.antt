-- `admission::single_passes`: every test holds, so nothing is refused. Assumes nothing.
use mathlib.Core.Bool.{false≢true}
use Rattle.checks.proofs.Passing.{single_passes}
use Rattle.admission.proofs.single_passes.Goals as goal

pub returns-then-not-target_passes : goal.returns-then-not-target_passes
returns-then-not-target_passes c = λ h. absurd (false≢true h)

pub returns : goal.returns
returns c = λ h. let b = c.one_passes.ensures h in single_passes _ _ _ _ b.0 b.1 (c.target_passes.ensures.0 (c.if-not-target_passes.false))
