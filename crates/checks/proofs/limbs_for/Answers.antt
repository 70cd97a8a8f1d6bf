-- `checks::limbs_for`: the quotient, and one limb more for what is left. Assumes nothing.
use native.Mathlib.Omega.{arith}
use Rattle.numbers.specs.Limits.{limbs_for}
use Rattle.checks.proofs.limbs_for.Goals as goal

pub returns-then-p-eq0 : goal.returns-then-p-eq0
unfolding limbs_for
returns-then-p-eq0 c = omega arith

pub returns : goal.returns
unfolding limbs_for
returns c = omega arith
