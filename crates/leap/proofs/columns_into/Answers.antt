-- `leap::columns_into` is right since the columns stand above the digits below them. Assumes nothing.
use Rattle.leap.proofs.Leaping.{read_down}
use Rattle.leap.proofs.columns_into.Goals as goal

pub returns : goal.returns
returns c =
    rw (read_down c.args.k c.args.gap c.args.limbs.now c.requires.columns) at c.shift_down_into.ensures
