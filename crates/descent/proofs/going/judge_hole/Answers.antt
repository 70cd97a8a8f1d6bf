-- `descent::going::judge_hole` is right since the hole is fixed where its test says so. Assumes nothing.
use Rattle.descent.proofs.JudgingRange.{hole_fixed, hole_open}
use Rattle.descent.proofs.going.judge_hole.Goals as goal

pub returns-then-hole_fixed : goal.returns-then-hole_fixed
returns-then-hole_fixed c = λ o a b s. hole_fixed _ _ (c.hole_fixed.ensures o a b s) c.if-hole_fixed.true

pub returns-else-hole_fixed : goal.returns-else-hole_fixed
returns-else-hole_fixed c = λ o a b s. hole_open _ _ (c.hole_fixed.ensures o a b s) c.if-hole_fixed.false
