-- `leap::leap_difference` is right since the columns fill the target. Assumes nothing.
use Rattle.leap.proofs.Leaping.{difference_leapt}
use Rattle.leap.proofs.leap_difference.Goals as goal

pub returns : goal.returns
returns c =
    difference_leapt c.args.from c.args.k c.args.first.now c.args.second.now c.args.target.now _ c.args.gap (λ i. (c.type_inv.first i).fits) (λ i. (c.type_inv.second i).fits) c.requires.0 _ _ c.shown.ensures (λ i. (c.type_inv.target i).fits) c.columns_to.ensures
