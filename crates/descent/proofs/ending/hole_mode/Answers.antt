-- `descent::ending::hole_mode`: only nearest has a tie, and the second operand lies above it or below. Assumes nothing.
use Rattle.std.proofs.Common.{rules}
use Rattle.descent.proofs.Parts.{mode_kept, mode_less, mode_more_up, mode_more_down}
use Rattle.descent.proofs.ending.hole_mode.Goals as goal

pub returns-then-ne-p : goal.returns-then-ne-p
returns-then-ne-p c = mode_kept _ _ _ _ (search rules)

pub returns-in-true-true : goal.returns-in-true-true
returns-in-true-true c = mode_more_down _ _ _ _ (search rules) (search rules) c.in-true-true.is-0 c.in-true-true.is-1

pub returns-in-true-false : goal.returns-in-true-false
returns-in-true-false c = mode_more_up _ _ _ _ (search rules) (search rules) c.in-true-false.is-0 c.in-true-false.is-1

pub returns-in-false-default : goal.returns-in-false-default
returns-in-false-default c = mode_less _ _ _ _ (search rules) (search rules) c.in-false-default.is-0
