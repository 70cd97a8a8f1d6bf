-- `aligned::few::write` is right since the limbs are written for which there is room. Assumes nothing.
use native.Mathlib.Omega.{arith}
use lib.ListN.{length-set}
use Rattle.aligned.proofs.ByValue.{two_limbs, one_written, two_written}
use borrow.Author.Rules.{rules}
use Rattle.aligned.proofs.few.write.Goals as goal

pub returns-then-target-eq1 : goal.returns-then-target-eq1
returns-then-target-eq1 c = (search rules, one_written c.args.target.now c.args.high c.args.low c.if-target-eq1.true c.ranges.low.fits)

pub bounds-target-1 : goal.bounds-target-1
bounds-target-1 c = simp length-set (omega (arith, two_limbs _ c.requires c.if-target-eq1.false))

pub returns : goal.returns
returns c = (search rules, two_written c.args.target.now c.args.high c.args.low (two_limbs _ c.requires c.if-target-eq1.false))
