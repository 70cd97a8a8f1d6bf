-- `admission::pair_passes`: every test holds, so nothing is refused. Assumes nothing.
use mathlib.Core.Bool.{false≢true}
use borrow.Author.Tests.{le-leb}
use Rattle.checks.specs.Check.{mode_holds}
use Rattle.checks.proofs.Passing.{pair_passes}
use Rattle.admission.proofs.pair_passes.Goals as goal

pub returns-then-mode-gt-MOST_MODE : goal.returns-then-mode-gt-MOST_MODE
returns-then-mode-gt-MOST_MODE c = λ h. absurd (false≢true h)

pub values_pass-requires : goal.values_pass-requires
values_pass-requires c = let sizes = c.requires in (sizes.first, sizes.second)

pub returns : goal.returns
unfolding mode_holds
returns c =
    λ h. let b = c.values_pass.ensures h in
    pair_passes _ _ _ _ _ (le-leb _ 3 c.if-mode-gt-MOST_MODE.false) b.0 b.1 c.requires.target
