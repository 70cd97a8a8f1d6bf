-- `order::order_apart`: each return is a case of the definition. Assumes nothing.
use Rattle.order.proofs.Cases.{apart_zeros, apart_below, apart_above}
use Rattle.order.proofs.order_apart.Goals as goal

pub returns-then-xz-yz : goal.returns-then-xz-yz
returns-then-xz-yz c = apart_zeros _ _ _ _ _ _ c.is_zero-xz.ensures c.is_zero-yz.ensures c.if-xz-yz.true

pub returns-then-x : goal.returns-then-x
returns-then-x c = apart_below _ _ _ _ _ _ c.is_zero-xz.ensures c.is_zero-yz.ensures c.if-xz-yz.false c.if-x.true

pub returns : goal.returns
returns c = apart_above _ _ _ _ _ _ c.is_zero-xz.ensures c.is_zero-yz.ensures c.if-xz-yz.false c.if-x.false
