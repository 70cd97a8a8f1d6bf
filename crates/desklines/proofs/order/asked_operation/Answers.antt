-- `desklines::asked_operation`: by the number. Assumes nothing.
use borrow.Author.Tests.{eq-eqb, ne_eqb}
use Rattle.desklines.specs.Order.{operation_in}
use Rattle.desklines.proofs.order.asked_operation.Goals as goal

pub returns-then-n-eq1 : goal.returns-then-n-eq1
unfolding operation_in
returns-then-n-eq1 c = simp (eq-eqb c.args.n 1 c.if-n-eq1.true)

pub returns : goal.returns
unfolding operation_in
returns c = simp (ne_eqb c.args.n 1 c.if-n-eq1.false)
