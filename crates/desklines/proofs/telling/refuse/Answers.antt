-- `desklines::refuse`: the refusal's line where there is room for any answer. Assumes nothing.
use mathlib.Core.Path.{refl}
use native.Mathlib.Omega.{arith}
use Rattle.desklines.proofs.telling.refuse.Goals as goal

pub returns-then-out-longest_answer : goal.returns-then-out-longest_answer
returns-then-out-longest_answer g c = record { short = λ h. (refl, refl); told = λ h. absurd (omega (arith, c.if-out-longest_answer.true, c.longest_answer.ensures)) }

pub put_refusal-requires : goal.put_refusal-requires
put_refusal-requires g c = omega (arith, c.if-out-longest_answer.false, c.longest_answer.ensures)

pub returns : goal.returns
returns g c = record { short = λ h. absurd (omega (arith, c.if-out-longest_answer.false, c.longest_answer.ensures)); told = λ h. rw c.as_numbered-numbers.ensures at c.put_refusal.ensures }
