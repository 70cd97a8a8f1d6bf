-- `stream::cut_short`: the refusal 8. Assumes nothing.
use Rattle.stream.specs.Desk.{cut_short}
use Rattle.stream.proofs.serving.cut_short.Goals as goal

pub returns : goal.returns
unfolding cut_short
returns c = c.refuse.ensures.told c.requires
