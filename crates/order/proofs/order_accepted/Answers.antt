-- `order::order_accepted`: each return is a case of the definition. Assumes nothing.
use mathlib.Core.Bool.{beq}
use borrow.Author.Tests.{not-true, not-false}
use Rattle.order.proofs.Cases.{signs_apart, signs_alike}
use Rattle.order.proofs.order_accepted.Goals as goal

pub returns-then-x-y : goal.returns-then-x-y
returns-then-x-y c = signs_apart _ _ _ _ (not-true (beq c.args.x.negative c.args.y.negative) c.if-x-y.true) c.order_apart.ensures

pub returns : goal.returns
returns c = signs_alike _ _ _ _ (not-false (beq c.args.x.negative c.args.y.negative) c.if-x-y.false) c.order_same.ensures
