-- `arithmetic::sheafbuckle_subtract`: the kernel's own difference, over the numbers that the plain fields say. Assumes nothing.
use Rattle.sheafbuckle.proofs.arithmetic.sheafbuckle_subtract.Goals as goal

pub returns : goal.returns
returns c = (c.subtract.result, (c.from-3.ensures, rw (← c.from.ensures, ← c.from-2.ensures) c.subtract.ensures))
