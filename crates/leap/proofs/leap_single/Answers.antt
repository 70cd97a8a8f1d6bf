-- `leap::leap_single` is right since the columns fill the target. Assumes nothing.
use Rattle.leap.proofs.Leaping.{single_leapt}
use mathlib.Core.Path.{refl}
use Rattle.leap.proofs.leap_single.Goals as goal

pub returns : goal.returns
returns c =
    single_leapt 0 c.args.k c.args.first.now c.args.first.now c.args.target.now _ 0 (λ i. (c.type_inv.first i).fits) (λ i. (c.type_inv.first i).fits) c.requires.0 _ refl c.shown.ensures c.single_columns.ensures
