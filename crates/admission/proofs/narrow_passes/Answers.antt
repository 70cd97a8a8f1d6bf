-- `admission::narrow_passes`: the mode, the digits and the one limb, each by a comparison. Assumes nothing.
use mathlib.Core.Bool.{false≢true}
use borrow.Author.Tests.{le-leb}
use Rattle.checks.specs.Check.{mode_holds}
use Rattle.admission.proofs.Quick.{one_limb_passes}
use Rattle.admission.proofs.narrow_passes.Goals as goal

pub returns-then-mode-gt-MOST_MODE : goal.returns-then-mode-gt-MOST_MODE
returns-then-mode-gt-MOST_MODE c = λ h. absurd (false≢true h)

pub returns-then-p : goal.returns-then-p
returns-then-p c = λ h. absurd (false≢true h)

pub returns : goal.returns
unfolding mode_holds
returns c = λ h. let t = one_limb_passes _ _ c.if-p.false h in (le-leb _ 3 c.if-mode-gt-MOST_MODE.false, t.0, t.1)
