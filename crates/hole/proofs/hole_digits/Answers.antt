-- `settle::hole_digits`: by cases, as the definition.
use native.Mathlib.Omega.{arith}
use Rattle.hole.proofs.hole_digits.Goals as goal

pub returns-then-shorter : goal.returns-then-shorter
returns-then-shorter c = rw c.if-shorter.true (omega arith)

pub returns : goal.returns
returns c = rw c.if-shorter.false (omega arith)
