-- `near::fill_guarded` is right since one column more is what falls below the target, and a glance tells what both fix. Assumes nothing.
use native.Mathlib.Nat.{le_refl}
use Rattle.descent.proofs.GoingDown.{room_kept}
use Rattle.wide.proofs.Offering.{offered}
use Rattle.wide.proofs.FullTarget.{offered_second, offered_modest}
use Rattle.near.proofs.Alongside.{guards}
use Rattle.near.proofs.filling.fill_guarded.Goals as goal

pub glance_guarded-requires : goal.glance_guarded-requires
glance_guarded-requires c =
    let room = room_kept _ _ _ c.fill_moved-carry.ensures.size c.requires.0 in
    (room, offered_modest c.args.p _ c.args.order.now.first.now c.args.order.now.second.now (offered c.args.order.now) _ _ room (le_refl _), offered_second c.args.p _ c.args.order.now.first.now c.args.order.now.second.now (offered c.args.order.now))

pub returns : goal.returns
returns c =
    let m = c.fill_moved-carry.ensures in
    (m.size, c.glance_guarded.ensures c.args.order.now.first.now c.args.order.now.second.now (guards c.args.p _ c.args.order.now.first.now c.args.order.now.second.now c.args.target.now c.requires.0 c.requires.1 c.requires.3 _ _ _ _ c.if-carry.false m c.guard_of-guard.ensures c.requires.2))
