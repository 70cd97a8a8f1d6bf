-- `ways::is_deep`: all tests hold. Assumes nothing.
use Rattle.ways.proofs.Chosen.{deep_told}
use Rattle.ways.proofs.is_deep.Goals as goal

pub returns : goal.returns
returns c = deep_told c.args.p c.args.pair
