-- `order::order_exponents`: exponents are ordered as they are counted, and a test against the sign turns that order. Assumes nothing.
use mir.Syntax.{w32}
use mir.Val.{SFits}
use Rattle.order.proofs.Exponents.{counted_less, counted_more}
use Rattle.order.proofs.Cases.{exponent_below, exponent_above}
use Rattle.order.proofs.order_exponents.Goals as goal

pub returns-then-x-y : goal.returns-then-x-y
returns-then-x-y c xl yl =
    let first_fits : SFits w32 c.args.x.exponent = record { sfits = c.struct_told-1.given.1.1.1.0.1 } in
    let second_fits : SFits w32 c.args.y.exponent = record { sfits = c.struct_told-2-1.given.1.1.1.0.1 } in
    exponent_below c.args.x _ xl yl _ (counted_less _ _ first_fits second_fits) (counted_more _ _ first_fits second_fits c.requires) c.if-x-y.true

pub returns : goal.returns
returns c xl yl =
    let first_fits : SFits w32 c.args.x.exponent = record { sfits = c.struct_told-1.given.1.1.1.0.1 } in
    let second_fits : SFits w32 c.args.y.exponent = record { sfits = c.struct_told-2-1.given.1.1.1.0.1 } in
    exponent_above c.args.x _ xl yl _ (counted_less _ _ first_fits second_fits) (counted_more _ _ first_fits second_fits c.requires) c.if-x-y.false
