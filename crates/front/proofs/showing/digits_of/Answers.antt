-- `front::digits_of` is right since a carry is the first of 65 digits, and without one the limb has them all. Assumes nothing.
use native.Mathlib.Omega.{arith}
use lib.Count.{leading_le}
use Rattle.front.proofs.Stepping.{digits_carry, digits_limb}
use Rattle.front.proofs.showing.digits_of.Goals as goal

pub overflow_cast-result : goal.overflow_cast-result
overflow_cast-result c = omega (arith, leading_le 64 c.args.front.limb)

pub overflow_sub-result : goal.overflow_sub-result
overflow_sub-result c = leading_le 64 c.args.front.limb

pub returns-then-front : goal.returns-then-front
returns-then-front c = digits_carry c.args.front (omega arith) c.if-front.true

pub returns-else-front : goal.returns-else-front
returns-else-front c = digits_limb c.args.front (omega arith) c.if-front.false
