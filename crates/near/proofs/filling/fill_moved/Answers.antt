-- `near::fill_moved` is right since one walk adds or takes off, and a difference that is no less than 0 borrows nothing. Assumes nothing.
use Rattle.near.proofs.Moving.{moved_sum, moved_difference}
use Rattle.near.proofs.filling.fill_moved.Goals as goal

pub returns-then-pair : goal.returns-then-pair
returns-then-pair c = moved_sum _ _ _ _ _ _ _ c.if-pair.true c.sum_moved.ensures

pub returns : goal.returns
returns c = moved_difference _ _ _ _ _ _ _ c.if-pair.false (λ i. (c.type_inv.target i).fits) c.difference_moved.ensures
