-- `ways::is_near`: all tests hold. Assumes nothing.
use Rattle.ways.proofs.Chosen.{near_told}
use Rattle.ways.proofs.is_near.Goals as goal

pub returns : goal.returns
returns c = near_told c.args.first c.args.second c.args.n c.args.pair.gap
