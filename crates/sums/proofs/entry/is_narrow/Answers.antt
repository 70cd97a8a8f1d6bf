-- `entry::is_narrow`: each of the three tests holds. Assumes nothing.
use Rattle.sums.proofs.AtOnce.{narrow_told}
use Rattle.sums.proofs.entry.is_narrow.Goals as goal

pub returns : goal.returns
returns c = narrow_told c.args.p c.is_zero.ensures c.is_zero-2.ensures
