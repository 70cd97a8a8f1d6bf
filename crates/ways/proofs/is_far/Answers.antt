-- `ways::is_far`: all tests hold. Assumes nothing.
use Rattle.ways.proofs.Chosen.{far_told}
use Rattle.ways.proofs.is_far.Goals as goal

pub returns : goal.returns
returns c = far_told c.args.p c.args.first c.args.n c.args.pair.gap
