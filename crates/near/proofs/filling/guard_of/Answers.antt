-- `near::guard_of` is right since a limb moved up is what falls below the target, and a difference takes it off nothing. Assumes nothing.
use Rattle.near.proofs.Moving.{guarding_sum, guarding_difference}
use Rattle.near.proofs.filling.guard_of.Goals as goal

pub returns-then-same : goal.returns-then-same
returns-then-same c = guarding_sum _ _ c.if-same.true

pub returns : goal.returns
returns c = guarding_difference _ _ _ _ c.if-same.false c.sub_borrow.ensures
