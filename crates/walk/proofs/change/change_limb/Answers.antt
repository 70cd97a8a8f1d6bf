-- `walk::change::change_limb`: a limb's sum or difference with 1. Assumes nothing.
use native.Mathlib.Omega.{arith}
use Rattle.limb.specs.Carry.{bit}
use Rattle.walk.proofs.change.change_limb.Goals as goal

pub returns-in-Rise : goal.returns-in-Rise
unfolding bit
returns-in-Rise c = rw c.in-Rise.is (omega (arith, c.add_carry.ensures))

pub returns-in-Fall : goal.returns-in-Fall
unfolding bit
returns-in-Fall c = rw c.in-Fall.is (omega (arith, c.sub_borrow.ensures))
