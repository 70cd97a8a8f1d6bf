-- `arithmetic::sheafbuckle_add`: the kernel's own sum, over the numbers that the plain fields say. Assumes nothing.
use Rattle.sheafbuckle.proofs.arithmetic.sheafbuckle_add.Goals as goal

pub returns : goal.returns
returns c = (c.add.result, (c.from-3.ensures, rw (← c.from.ensures, ← c.from-2.ensures) c.add.ensures))
