-- `doubles::pack::sign_bit`: by cases, as the definition. Assumes nothing.
use Rattle.unpack.specs.Double.{sign_bit}
use Rattle.doubles.proofs.pack.sign_bit.Goals as goal

pub returns-then-negative : goal.returns-then-negative
unfolding sign_bit
returns-then-negative c = rw c.if-negative.true

pub returns-else-negative : goal.returns-else-negative
unfolding sign_bit
returns-else-negative c = rw c.if-negative.false
