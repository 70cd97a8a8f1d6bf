-- `leap::columns_to` is right since the last column is stepped through alone, and its carry goes into those above. Assumes nothing.
use Rattle.leap.proofs.Leaping.{columns_joined}
use Rattle.leap.proofs.columns_to.Goals as goal

pub returns : goal.returns
returns g c =
    columns_joined c.args.gap c.args.k c.args.first.now c.args.second.now c.args.target.now _ _ _ _ c.requires.0 g.S.Step.column g.met.S.Step.joins
    (rw (c.column-a.ensures, c.column-b.ensures) at c.limb-s.ensures) c.columns_above.ensures
