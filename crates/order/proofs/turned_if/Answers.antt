-- `order::turned_if`: the one or the other. Assumes nothing.
use Rattle.order.proofs.turned_if.Goals as goal

pub returns-then-turn : goal.returns-then-turn
returns-then-turn c = rw c.if-turn.true c.reverse.ensures
