-- `remnant::ones::limb_ones` is right since so many ones are a power of 2 less one. Assumes nothing.
use native.Mathlib.Omega.{arith}
use lib.Pow.{pow_pos}
use Rattle.limb.proofs.Powers.{one_moved}
use Rattle.remnant.proofs.Leading.{limb_full, limb_part}
use Rattle.remnant.proofs.ones.limb_ones.Goals as goal

pub returns-then-count-eq64 : goal.returns-then-count-eq64
returns-then-count-eq64 c = limb_full _ c.args.count c.if-count-eq64.true

pub overflow_sub-result : goal.overflow_sub-result
overflow_sub-result c = rw (one_moved c.args.count (omega arith)) (pow_pos _)

pub returns : goal.returns
returns c = limb_part _ c.args.count (omega arith)
