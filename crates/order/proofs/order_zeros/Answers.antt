-- `order::order_zeros`: each return is a case of the definition. Assumes nothing.
use Rattle.order.proofs.Cases.{two_zeros, zero_below, zero_above}
use Rattle.order.proofs.order_zeros.Goals as goal

pub returns-then-first-second : goal.returns-then-first-second
returns-then-first-second c = two_zeros _ _ _ _ _ _ c.is_zero-first.ensures c.is_zero-second.ensures c.requires c.if-first-second.true

pub returns-then-first-x : goal.returns-then-first-x
returns-then-first-x c = zero_below c.args.x _ _ _ _ _ c.is_zero-first.ensures c.is_zero-second.ensures c.requires c.if-first-second.false c.if-first-x.true

pub returns : goal.returns
returns c = zero_above c.args.x _ _ _ _ _ c.is_zero-first.ensures c.is_zero-second.ensures c.requires c.if-first-second.false c.if-first-x.false
