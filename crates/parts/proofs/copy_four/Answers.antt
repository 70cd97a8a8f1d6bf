-- `parts::copy_four` is right since each of the four limbs is written where it was read, one after the other. Assumes nothing.
use native.Mathlib.Omega.{arith}
use lib.ListN.{length-set}
use Rattle.parts.proofs.Copying.{four_copied}
use Rattle.parts.proofs.copy_four.Goals as goal

pub bounds-target-i-2 : goal.bounds-target-i-2
bounds-target-i-2 c = simp length-set (omega arith)

pub bounds-target-i-3 : goal.bounds-target-i-3
bounds-target-i-3 c = simp length-set (omega arith)

pub bounds-target-i-4 : goal.bounds-target-i-4
bounds-target-i-4 c = simp length-set (omega arith)

pub returns : goal.returns
returns c =
    four_copied c.args.source.now c.args.target.now c.args.i c.requires.0 c.requires.1
