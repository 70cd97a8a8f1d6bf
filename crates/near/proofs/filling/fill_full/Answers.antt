-- `near::fill_full` is right since the columns that fill the target are the two numbers, the second divided, and a glance tells what they fix. Assumes nothing.
use Prim.Native.Nat.{ℕ, ◌+◌, ◌≤◌}
use native.Mathlib.Omega.{arith}
use Rattle.descent.proofs.GoingDown.{room_kept, room_some}
use Rattle.wide.proofs.Offering.{offered}
use Rattle.wide.proofs.FullTarget.{offered_second, offered_modest}
use Rattle.near.proofs.Alongside.{promptly}
use Rattle.near.proofs.filling.fill_full.Goals as goal

near : (n : ℕ) → n ≤ n + 1
near n = omega arith

pub fill_moved-carry-requires : goal.fill_moved-carry-requires
fill_moved-carry-requires c = (room_some _ _ c.requires.0, c.requires.1)

pub glance_full-requires : goal.glance_full-requires
glance_full-requires c =
    let room = room_kept _ _ _ c.fill_moved-carry.ensures.size c.requires.0 in
    (room, offered_modest c.args.p _ c.args.order.now.first.now c.args.order.now.second.now (offered c.args.order.now) _ _ room (near _), offered_second c.args.p _ c.args.order.now.first.now c.args.order.now.second.now (offered c.args.order.now))

pub returns : goal.returns
returns c =
    let m = c.fill_moved-carry.ensures in
    (m.size, c.glance_full.ensures c.args.order.now.first.now c.args.order.now.second.now c.args.target.now _ (promptly c.args.p _ c.args.order.now.first.now c.args.order.now.second.now c.args.target.now c.requires.0 c.requires.1 c.requires.2 _ _ (offered_second c.args.p _ c.args.order.now.first.now c.args.order.now.second.now (offered c.args.order.now)) m))
