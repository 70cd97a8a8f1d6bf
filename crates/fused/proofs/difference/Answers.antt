-- `fused::difference` is right since it is the walk whose column says what it promises. Assumes nothing.
use Rattle.fused.proofs.difference.Goals as goal

pub returns : goal.returns
returns c = record { size = c.fuse.ensures.size; value = c.fuse.ensures.value }
