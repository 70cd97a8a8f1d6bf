-- `fused::sum_moved` is right since it is the walk whose column says what it promises. Assumes nothing.
use Rattle.fused.proofs.sum_moved.Goals as goal

pub returns : goal.returns
returns c = record { size = c.fuse_moved.ensures.size; value = c.fuse_moved.ensures.value }
