-- `wide::fill_exactly` is right since the columns that fill the target are read, and a glance tells what they fix. Assumes nothing.
use mathlib.Core.Path.{refl}
use Prim.Native.Nat.{ℕ, ◌+◌, ◌≤◌}
use native.Mathlib.Omega.{arith}
use Rattle.descent.proofs.GoingDown.{room_kept}
use Rattle.wide.proofs.Offering.{offered}
use Rattle.wide.proofs.FullTarget.{offered_sighted, offered_second, offered_modest}
use Rattle.wide.proofs.exactly.fill_exactly.Goals as goal

near : (n : ℕ) → n ≤ n + 1
near n = omega arith

pub is_prompt-requires : goal.is_prompt-requires
is_prompt-requires c = offered_sighted _ _ c.args.order.now.first.now c.args.order.now.second.now (offered c.args.order.now) c.args.target.now c.requires

pub fill-w-requires : goal.fill-w-requires
fill-w-requires c = (offered_sighted _ _ c.args.order.now.first.now c.args.order.now.second.now (offered c.args.order.now) c.args.target.now c.requires, c.is_prompt.ensures (c.if-not-is_prompt.false))

pub glance_full-requires : goal.glance_full-requires
glance_full-requires c =
    let room = room_kept _ _ _ c.fill-w.auto.target c.requires in
    let o = (offered c.args.order.now) in
    (room, offered_modest c.args.p _ c.args.order.now.first.now c.args.order.now.second.now o _ _ room (near _), offered_second c.args.p _ c.args.order.now.first.now c.args.order.now.second.now o)

pub returns : goal.returns
returns c =
    (c.fill-w.auto.target, c.glance_full.ensures c.args.order.now.first.now c.args.order.now.second.now c.args.target.now _ (record { prompt = c.is_prompt.ensures (c.if-not-is_prompt.false); filled = c.fill-w.ensures; size = c.fill-w.auto.target; carry_is = refl }))
