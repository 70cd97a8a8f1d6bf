-- `ways::is_lower`: all tests hold. Assumes nothing.
use Rattle.ways.proofs.Chosen.{lower_told}
use Rattle.ways.proofs.is_lower.Goals as goal

pub returns : goal.returns
returns c = lower_told c.args.m c.args.k c.args.n
