-- `admission::one_passes`: the mode, and then the operand. Assumes nothing.
use mathlib.Core.Bool.{false≢true}
use borrow.Author.Tests.{le-leb}
use Rattle.checks.specs.Check.{mode_holds}
use Rattle.admission.proofs.one_passes.Goals as goal

pub returns-then-mode-gt-MOST_MODE : goal.returns-then-mode-gt-MOST_MODE
returns-then-mode-gt-MOST_MODE c = λ h. absurd (false≢true h)

pub returns : goal.returns
unfolding mode_holds
returns c = λ h. (le-leb _ 3 c.if-mode-gt-MOST_MODE.false, c.passes.ensures.0 h)
