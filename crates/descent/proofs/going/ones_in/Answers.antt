-- `descent::going::ones_in` is right since the first p digits stand above the tail. Assumes nothing.
use native.Mathlib.Omega.{arith}
use Rattle.descent.proofs.JudgingRange.{limbs_few, ones_long, ones_short}
use Rattle.descent.proofs.going.ones_in.Goals as goal

pub ones_first-requires : goal.ones_first-requires
ones_first-requires c = (c.requires.1.fits, limbs_few _ _ c.requires.0)

pub ones_first-requires-else-p-digits : goal.ones_first-requires-else-p-digits
ones_first-requires-else-p-digits c = (c.requires.1.fits, limbs_few _ _ c.requires.0)

pub returns-then-p-digits : goal.returns-then-p-digits
returns-then-p-digits c = λ D s d. ones_long _ _ _ _ D s c.requires.0 _ _ c.if-p-digits.true c.ones_first.ensures d

pub returns-else-p-digits : goal.returns-else-p-digits
returns-else-p-digits c = λ D s d. ones_short _ _ _ _ D s c.requires.0 _ _ (omega (arith, c.if-p-digits.false)) c.ones_first-else-p-digits.ensures d
