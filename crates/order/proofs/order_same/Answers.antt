-- `order::order_same`: a zero decides, or both are regular. Assumes nothing.
use mathlib.Core.Path.{◌≡◌}
use mathlib.Core.Bool.{true, false, ◌||◌}
use Rattle.checks.specs.Number.{is_zero_kind}
use Rattle.order.proofs.Cases.{zeros_alone, none_zero}
use Rattle.order.proofs.order_same.Goals as goal

pub order_zeros-requires : goal.order_zeros-requires
order_zeros-requires c =
    let some_zero : is_zero_kind c.args.x.kind || is_zero_kind c.args.y.kind ≡ true = rw (c.is_zero.ensures, c.is_zero-2.ensures) at c.if-is_zero.true in
    some_zero

pub returns-then-is_zero : goal.returns-then-is_zero
returns-then-is_zero c =
    let some_zero : is_zero_kind c.args.x.kind || is_zero_kind c.args.y.kind ≡ true = rw (c.is_zero.ensures, c.is_zero-2.ensures) at c.if-is_zero.true in
    zeros_alone _ _ _ _ some_zero c.order_zeros.ensures

pub returns : goal.returns
returns c =
    let no_zero : is_zero_kind c.args.x.kind || is_zero_kind c.args.y.kind ≡ false = rw (c.is_zero.ensures, c.is_zero-2.ensures) at c.if-is_zero.false in
    none_zero _ _ _ _ no_zero c.order_regular.ensures
