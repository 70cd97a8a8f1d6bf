-- `desklines::put_end`: the LF stands behind what stood there. Assumes nothing.
use Rattle.desklines.proofs.Tellings.{end_more}
use Rattle.desklines.proofs.telling.put_end.Goals as goal

pub returns : goal.returns
returns c = end_more c.args.out.now c.args.at c.requires
