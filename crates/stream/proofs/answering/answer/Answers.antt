-- `stream::answer`: what the lines print, or their refusal. Assumes nothing.
use mathlib.Core.Path.{refl}
use native.Mathlib.Omega.{arith}
use Rattle.stream.proofs.Groups.{refusal_answers, told_answers}
use Rattle.stream.proofs.answering.answer.Goals as goal

pub returns-then-out-longest_answer : goal.returns-then-out-longest_answer
returns-then-out-longest_answer c = record { short = λ h. (refl, refl); fits = λ h. absurd (omega (arith, c.if-out-longest_answer.true, c.longest_answer.ensures)); answered = λ h. absurd (omega (arith, c.if-out-longest_answer.true, c.longest_answer.ensures)); told = λ h. absurd (omega (arith, c.if-out-longest_answer.true, c.longest_answer.ensures)) }

pub answer_lines-requires : goal.answer_lines-requires
answer_lines-requires c = omega (arith, c.if-out-longest_answer.false, c.longest_answer.ensures)

pub returns-in-Ok : goal.returns-in-Ok
returns-in-Ok c =
    let g = c.args in
    told_answers g.first.now g.second.now g.third.now g.out.now _ _ (omega (arith, c.if-out-longest_answer.false, c.longest_answer.ensures)) c.in-Ok.ensures

pub put_refusal-requires : goal.put_refusal-requires
put_refusal-requires c = rw c.in-Err.ensures.1 (omega (arith, c.if-out-longest_answer.false, c.longest_answer.ensures))

pub returns-in-Err : goal.returns-in-Err
returns-in-Err c =
    let g = c.args in
    told_answers g.first.now g.second.now g.third.now g.out.now _ _ (omega (arith, c.if-out-longest_answer.false, c.longest_answer.ensures))
    (refusal_answers g.first.now g.second.now g.third.now g.out.now _ _ _ c.in-Err.ensures.0 (rw c.in-Err.ensures.1 at c.put_refusal.ensures))
