-- `leap::single_columns` is right since the last column is fetched alone. Assumes nothing.
use Rattle.leap.proofs.Leaping.{single_joined}
use Rattle.leap.proofs.single_columns.Goals as goal

pub shape_of-target : goal.shape_of-target
shape_of-target c =
    (single_joined 0 c.args.k c.args.first.now c.args.first.now c.args.target.now _ _ mathlib.Core.Bool.false mathlib.Core.Bool.false c.requires.0
    c.column.ensures c.columns_into.ensures).size

pub returns : goal.returns
returns c =
    single_joined 0 c.args.k c.args.first.now c.args.first.now c.args.target.now _ _ mathlib.Core.Bool.false mathlib.Core.Bool.false c.requires.0
    c.column.ensures c.columns_into.ensures
