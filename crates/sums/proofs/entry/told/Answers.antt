-- `entry::told`: the limb that a look tells is written to the target, and the rest is reported as it was told. Assumes nothing.
use lib.ListN.{length-set}
use Rattle.sums.proofs.AtOnce.{looked_reported}
use Rattle.sums.proofs.entry.told.Goals as goal

pub answered-requires : goal.answered-requires
answered-requires c = c.requires.1

pub returns : goal.returns
returns c =
    let g = c.args in
    (length-set g.target.now 0 _, λ o x y room h l. looked_reported o _ x y g.sight g.target.now room h l c.answered.ensures)
