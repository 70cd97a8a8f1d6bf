-- `arithmetic::sheafbuckle_reround`: the kernel's own, over the number that the plain fields say. Assumes nothing.
use Rattle.sheafbuckle.proofs.arithmetic.sheafbuckle_reround.Goals as goal

pub returns : goal.returns
returns c = (c.reround.result, (c.from-2.ensures, rw (← c.from.ensures) c.reround.ensures))
