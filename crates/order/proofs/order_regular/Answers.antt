-- `order::order_regular`: exponents are ordered as they are counted; where they are equal, the limbs decide. Assumes nothing.
use mathlib.Core.Path.{ap}
use mir.Syntax.{w32}
use mir.Val.{SFits, of_z}
use Rattle.order.proofs.Exponents.{counted_same}
use Rattle.order.proofs.Cases.{same_exponent}
use Rattle.order.proofs.order_regular.Goals as goal

pub order_exponents-requires : goal.order_exponents-requires
order_exponents-requires c = λ e. c.if-x-y.true (ap (of_z w32) e)

pub returns-then-x-y : goal.returns-then-x-y
returns-then-x-y c = c.order_exponents.ensures _ _

pub returns : goal.returns
returns c =
    let first_fits : SFits w32 c.args.x.exponent = record { sfits = c.struct_told-1.given.1.1.1.0.1 } in
    let second_fits : SFits w32 c.args.y.exponent = record { sfits = c.struct_told-2-1.given.1.1.1.0.1 } in
    same_exponent _ _ _ _ (counted_same _ _ first_fits second_fits c.if-x-y.false) c.order_limbs.ensures c.turned_if.ensures
