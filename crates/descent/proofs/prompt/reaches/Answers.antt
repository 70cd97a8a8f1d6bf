-- `descent::prompt::reaches` is right by its test. Assumes nothing.
use mathlib.Core.Path.{sym}
use mathlib.Core.Bool.{true≢false}
use native.Mathlib.Omega.{arith}
use Rattle.descent.proofs.AtOnce.{reached_second}
use Rattle.descent.proofs.prompt.reaches.Goals as goal

pub returns-then-pair-eq0 : goal.returns-then-pair-eq0
returns-then-pair-eq0 c = λ e h. absurd (omega (arith, c.if-pair-eq0.true))

pub returns-then-second-gt1048576 : goal.returns-then-second-gt1048576
returns-then-second-gt1048576 c = λ e. absurd (true≢false (sym e))

pub returns : goal.returns
returns c = λ e h. reached_second _ _ _ c.if-second-gt1048576.false e
