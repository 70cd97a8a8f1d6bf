-- `ways::is_short`: all tests hold. Assumes nothing.
use Rattle.ways.proofs.Chosen.{short_told}
use Rattle.ways.proofs.is_short.Goals as goal

pub returns : goal.returns
returns c = short_told c.args.m c.args.k c.args.n
