-- `descent::going::judge_plus` is right since the class test settles the sum where it says so, and the range test else. Assumes nothing.
use Rattle.descent.proofs.JudgingRange.{limbs_few, digits_fit, digits_last, settled_as, unsettled_as}
use Rattle.descent.proofs.going.judge_plus.Goals as goal

pub rest_of-x-requires : goal.rest_of-x-requires
rest_of-x-requires c = (c.requires.1.fits, limbs_few _ _ c.requires.0, digits_fit _ _ c.requires.0, digits_last _ _ c.requires.0)

pub returns-then-settled_plus : goal.returns-then-settled_plus
returns-then-settled_plus c = λ D s e. settled_as _ _ _ _ _ (c.settled_plus.ensures _ D (c.rest_of-x.ensures _ D s)) c.if-settled_plus.true

pub returns-else-settled_plus : goal.returns-else-settled_plus
returns-else-settled_plus c = λ D s e. unsettled_as _ _ _ _ _ _ (c.settled_plus.ensures _ D (c.rest_of-x.ensures _ D s)) c.if-settled_plus.false (c.refused.ensures D s e (c.rest_of-x.ensures _ D s))
