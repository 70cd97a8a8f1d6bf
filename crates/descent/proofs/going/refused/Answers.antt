-- `descent::going::refused` is right since signs that are alike leave only a sum too large, and unlike ones only a difference too small. Assumes nothing.
use Rattle.descent.proofs.going.refused.Goals as goal

pub returns-then-pair : goal.returns-then-pair
returns-then-pair c = λ D s e r. c.refused_sum.ensures D s e r c.if-pair.true

pub returns-else-pair : goal.returns-else-pair
returns-else-pair c = λ D s e r. c.refused_difference.ensures D s e r c.if-pair.false
