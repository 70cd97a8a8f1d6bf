-- `kept::truncation::clear_spare` is right since the spare bits stand in the lowest limb. Assumes nothing.
use lib.ListN.{length-set}
use Rattle.kept.proofs.Moves.{cleared}
use Rattle.kept.proofs.truncation.clear_spare.Goals as goal

pub returns : goal.returns
returns c =
    let g = c.args in
    record { size = length-set g.target.now 0 _; value = cleared g.target.now g.spare c.requires.1 c.requires.0 (c.slice_known-1.given 0).fits }
