-- `descent::going::step` is right since a column more of the sum is the last one, moved up, with the two columns added, or the second taken off the first. Assumes nothing.
use Rattle.descent.proofs.GoingOn.{step_sum, step_difference}
use Rattle.descent.proofs.going.step.Goals as goal

pub returns-then-pair : goal.returns-then-pair
returns-then-pair c = λ o p x y toward held going.
    step_sum o p x y toward _ _ _ held _ _ _ _ _ _ _ going c.column-a.ensures c.second_column-b.ensures c.if-pair.true c.append_sum.ensures

pub returns-else-pair : goal.returns-else-pair
returns-else-pair c = λ o p x y toward held going.
    step_difference o p x y toward _ _ _ held _ _ _ _ _ _ _ going c.column-a.ensures c.second_column-b.ensures c.if-pair.false c.append_difference.ensures
