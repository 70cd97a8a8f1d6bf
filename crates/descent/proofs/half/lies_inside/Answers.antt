-- `descent::half::lies_inside` is right by its test. Assumes nothing.
use lib.Pow.{pow_pos}
use Rattle.descent.proofs.Inside.{limb_inside}
use Rattle.descent.proofs.half.lies_inside.Goals as goal

pub nonzero_rem-rest : goal.nonzero_rem-rest
nonzero_rem-rest c = rw c.half_of-half.ensures (pow_pos _)

pub overflow_sub-result : goal.overflow_sub-result
overflow_sub-result c = rw c.half_of-half.ensures (pow_pos _)

pub returns : goal.returns
returns c = λ e. limb_inside _ _ _ c.half_of-half.ensures e
