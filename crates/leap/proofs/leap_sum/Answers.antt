-- `leap::leap_sum` is right since the columns fill the target. Assumes nothing.
use Rattle.leap.proofs.Leaping.{sum_leapt}
use mathlib.Core.Path.{refl}
use Rattle.leap.proofs.leap_sum.Goals as goal

pub returns : goal.returns
returns c =
    sum_leapt 0 c.args.k c.args.first.now c.args.second.now c.args.target.now _ c.args.gap (λ i. (c.type_inv.first i).fits) (λ i. (c.type_inv.second i).fits) c.requires.0 _ refl _ c.shown.ensures c.columns_to-carry.ensures
