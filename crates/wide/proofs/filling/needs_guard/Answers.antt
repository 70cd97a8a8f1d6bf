-- `wide::needs_guard` is right as it stands. Assumes nothing.
use mathlib.Core.Path.{sym}
use mathlib.Core.Bool.{true≢false}
use Rattle.wide.proofs.GuardBelow.{spent_told}
use Rattle.wide.proofs.filling.needs_guard.Goals as goal

pub returns-then-p-n : goal.returns-then-p-n
returns-then-p-n c = λ e. absurd (true≢false (sym e))

pub returns : goal.returns
returns c = spent_told _ _ _ _ c.if-p-n.false c.is_read.ensures
