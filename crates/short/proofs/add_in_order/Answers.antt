-- `short::add_in_order` is right in each way. Assumes nothing.
use mathlib.Core.Path.{sym, ◌∙◌}
use native.Mathlib.Omega.{arith}
use Rattle.wide.proofs.InHollow.{sum_fits}
use Rattle.short.proofs.Held.{top_room, room_few, neither}
use Rattle.short.proofs.add_in_order.Goals as goal

pub is_high-requires : goal.is_high-requires
is_high-requires c = (top_room _ _ _ _ _ c.requires.2.holding).1

pub is_low-requires : goal.is_low-requires
is_low-requires c = ((top_room _ _ _ _ _ c.requires.2.holding).1, room_few c.args.p _ c.requires.0)

pub add_close-requires : goal.add_close-requires
add_close-requires c =
    let t = neither _ _ c.if-is_high-is_low.false in
    (c.requires.0, c.requires.1, c.requires.2, c.if-pair-lt64.true, sym c.is_high.ensures ∙ t.0, sym c.is_low.ensures ∙ t.1)

pub returns-then-pair-lt64 : goal.returns-then-pair-lt64
returns-then-pair-lt64 c = (c.add_close.ensures.0, c.add_close.ensures.1 _ c.args.swapped)

pub overflow_add-p : goal.overflow_add-p
overflow_add-p c = omega (arith, sum_fits _ _ c.requires.0)

pub add_apart-requires : goal.add_apart-requires
add_apart-requires c = (c.requires.0, c.requires.1, (c.args.v, c.requires.2), c.if-pair-p.false)

pub returns : goal.returns
returns c = (c.add_apart.ensures.0, c.add_apart.ensures.1 c.args.v)
