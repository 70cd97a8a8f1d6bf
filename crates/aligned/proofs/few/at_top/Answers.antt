-- `aligned::few::at_top` is right for one limb and for two. Assumes nothing.
use native.Mathlib.Omega.{arith}
use Rattle.aligned.proofs.ByValue.{two_limbs, one_top, two_top}
use Rattle.aligned.proofs.few.at_top.Goals as goal

pub returns-then-l-eq1 : goal.returns-then-l-eq1
returns-then-l-eq1 c = one_top c.args.l.now c.if-l-eq1.true

pub bounds-l-1 : goal.bounds-l-1
bounds-l-1 c = omega (arith, two_limbs _ c.requires c.if-l-eq1.false)

pub bounds-l-0-2 : goal.bounds-l-0-2
bounds-l-0-2 c = c.requires.0

pub returns : goal.returns
returns c = two_top c.args.l.now (two_limbs _ c.requires c.if-l-eq1.false)
