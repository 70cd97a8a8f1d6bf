-- `leap::shown` is right as it stands. Assumes nothing.
use Rattle.leap.specs.Leap.{leapt_to}
use borrow.Author.Rules.{rules}
use Rattle.leap.proofs.shown.Goals as goal

pub returns : goal.returns
unfolding leapt_to
returns c =
    search rules
