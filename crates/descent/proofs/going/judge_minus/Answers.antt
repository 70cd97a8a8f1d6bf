-- `descent::going::judge_minus` is right since the class test settles the difference where it says so, and the range test else. Assumes nothing.
use Rattle.descent.proofs.JudgingRange.{limbs_few, digits_fit, digits_last, digits_some, settled_as, unsettled_as}
use Rattle.descent.proofs.going.judge_minus.Goals as goal

pub rest_of-x-requires : goal.rest_of-x-requires
rest_of-x-requires c = (c.requires.1.fits, limbs_few _ _ c.requires.0, digits_fit _ _ c.requires.0, digits_last _ _ c.requires.0)

pub returns-then-settled_minus : goal.returns-then-settled_minus
returns-then-settled_minus c = λ D s e. settled_as _ _ _ _ _ (c.settled_minus.ensures _ D (c.rest_of-x.ensures _ D s) (digits_some _ _ c.requires.0)) c.if-settled_minus.true

pub returns-else-settled_minus : goal.returns-else-settled_minus
returns-else-settled_minus c = λ D s e. unsettled_as _ _ _ _ _ _ (c.settled_minus.ensures _ D (c.rest_of-x.ensures _ D s) (digits_some _ _ c.requires.0)) c.if-settled_minus.false (c.refused.ensures D s e (c.rest_of-x.ensures _ D s))
