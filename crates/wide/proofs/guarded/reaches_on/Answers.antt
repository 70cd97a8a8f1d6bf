-- `wide::reaches_on` is right as it stands. Assumes nothing.
use mathlib.Core.Path.{sym}
use mathlib.Core.Bool.{true≢false}
use Rattle.wide.proofs.guarded.reaches_on.Goals as goal

pub returns-then-second-pair : goal.returns-then-second-pair
returns-then-second-pair c = λ e. absurd (true≢false (sym e))

pub returns : goal.returns
returns c = λ e. (c.if-second-pair.false, c.is_inland.ensures e)
