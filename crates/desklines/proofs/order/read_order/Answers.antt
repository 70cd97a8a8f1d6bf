-- `desklines::read_order`: 8, 9, 11 in that order. Assumes nothing.
use mathlib.Core.Path.{sym, ◌∙◌}
use native.Mathlib.Omega.{arith}
use Rattle.desklines.proofs.Orders.{wrong_size, no_digits, no_operation, taken}
use Rattle.desklines.proofs.order.read_order.Goals as goal

pub returns-then-line-ne-ORDER_SIZE : goal.returns-then-line-ne-ORDER_SIZE
returns-then-line-ne-ORDER_SIZE c = rw c.fault.ensures (wrong_size c.args.line.now c.if-line-ne-ORDER_SIZE.true)

pub returns-then-not-digits_hold : goal.returns-then-not-digits_hold
returns-then-not-digits_hold c = rw c.fault-then-not-digits_hold.ensures (no_digits c.args.line.now c.if-line-ne-ORDER_SIZE.false (sym c.digits_hold.ensures ∙ c.if-not-digits_hold.true))

pub field_at-asked-requires : goal.field_at-asked-requires
field_at-asked-requires c = (sym c.digits_hold.ensures ∙ c.if-not-digits_hold.false, omega arith, omega arith)

pub returns-then-asked-gt1 : goal.returns-then-asked-gt1
returns-then-asked-gt1 c = rw c.fault-then-asked-gt1.ensures (no_operation c.args.line.now c.if-line-ne-ORDER_SIZE.false (sym c.digits_hold.ensures ∙ c.if-not-digits_hold.false) (omega (arith, c.if-asked-gt1.true, c.field_at-asked.ensures.0)))

pub field_at-requires : goal.field_at-requires
field_at-requires c = (sym c.digits_hold.ensures ∙ c.if-not-digits_hold.false, omega arith, omega arith)

pub field_at-requires-2 : goal.field_at-requires-2
field_at-requires-2 c = (sym c.digits_hold.ensures ∙ c.if-not-digits_hold.false, omega arith, omega arith)

pub overflow_cast-result : goal.overflow_cast-result
overflow_cast-result c = record { fits = c.field_at-2.ensures.1 }

pub returns : goal.returns
returns c = taken c.args.line.now c.if-line-ne-ORDER_SIZE.false (sym c.digits_hold.ensures ∙ c.if-not-digits_hold.false) _ _ _ _ c.field_at-asked.ensures.0 c.if-asked-gt1.false c.asked_operation.ensures c.field_at.ensures.0 c.field_at-2.ensures.0
