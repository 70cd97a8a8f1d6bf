-- `ways::read_in_order` is right since each way is, and its test tells what it asks. Assumes nothing.
use Rattle.ways.proofs.Chosen.{far_asked}
use Rattle.ways.proofs.read_in_order.Goals as goal

pub attempt-requires : goal.attempt-requires
attempt-requires c = let t = c.is_near.ensures c.if-is_near.true in (c.requires, record { first_long = t.0; second_long = t.1; apart = t.2; close = t.3 })

pub is_far-requires : goal.is_far-requires
is_far-requires c = far_asked c.args.p _ c.requires

pub attempt-requires-then-is_far : goal.attempt-requires-then-is_far
attempt-requires-then-is_far c = let t = c.is_far.ensures c.if-is_far.true in (c.requires, t.0, t.1, t.2)

pub attempt-requires-then-is_short : goal.attempt-requires-then-is_short
attempt-requires-then-is_short c = let t = c.is_short.ensures c.if-is_short.true in (c.requires, t.0, t.1, t.2)
