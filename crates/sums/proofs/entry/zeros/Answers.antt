-- `entry::zeros`: the cleared target has as many limbs as p digits take, and the zero of the rule's sign is what two zeros report. Assumes nothing.
use Rattle.sums.proofs.Entries.{zeros_told}
use Rattle.sums.proofs.entry.zeros.Goals as goal

pub returns : goal.returns
returns c xl yl a b =
    zeros_told c.args.mode _ c.args.x xl c.args.y yl a b c.args.target.now c.requires c.clear.ensures c.zero_sign-sign.ensures c.zero.ensures
