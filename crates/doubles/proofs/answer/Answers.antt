-- `doubles::answer`: by the sign of the ternary value, as the definition. Assumes nothing.
use mir.Facts.{to_z-of_z}
use Rattle.doubles.proofs.Cases.{case_below, case_above, case_exact}
use Rattle.doubles.proofs.answer.Goals as goal

pub returns-then-ternary-lt0 : goal.returns-then-ternary-lt0
returns-then-ternary-lt0 c = case_below _ _ (rw (to_z-of_z c.ranges.ternary) at c.if-ternary-lt0.true)

pub returns-then-ternary-gt0 : goal.returns-then-ternary-gt0
returns-then-ternary-gt0 c = case_above _ _ (rw (to_z-of_z c.ranges.ternary) at c.if-ternary-gt0.true)

pub returns : goal.returns
returns c = case_exact _ _ (rw (to_z-of_z c.ranges.ternary) at c.if-ternary-lt0.false) (rw (to_z-of_z c.ranges.ternary) at c.if-ternary-gt0.false)
