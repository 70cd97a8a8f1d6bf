-- `descent::prompt::is_prompt` is right by its tests. Assumes nothing.
use mathlib.Core.Path.{sym}
use mathlib.Core.Bool.{true≢false}
use native.Mathlib.Omega.{arith}
use Rattle.descent.proofs.prompt.is_prompt.Goals as goal

pub returns-then-first-last : goal.returns-then-first-last
returns-then-first-last c = λ e. absurd (true≢false (sym e))

pub returns-then-not-reaches : goal.returns-then-not-reaches
returns-then-not-reaches c = λ e. absurd (true≢false (sym e))

pub returns : goal.returns
returns c = λ e. record { first_long = omega (arith, c.if-first-last.false); second_long = c.reaches.ensures (c.if-not-reaches.false); inland = c.is_inland.ensures e }
