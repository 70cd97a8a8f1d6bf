-- `wide::fill_guarded` is right since the columns that fill the target and one more are read, and a glance tells what they fix. Assumes nothing.
use mathlib.Core.Path.{refl}
use native.Mathlib.Nat.{le_refl}
use Rattle.descent.proofs.GoingDown.{room_kept}
use Rattle.wide.proofs.Offering.{offered}
use Rattle.wide.proofs.FullTarget.{offered_sighted, offered_second, offered_modest}
use Rattle.wide.proofs.GuardBelow.{guard_asked, guard_within, guards}
use Rattle.wide.proofs.guarded.fill_guarded.Goals as goal

pub is_prompt-requires : goal.is_prompt-requires
is_prompt-requires c =
    offered_sighted c.args.p _ c.args.order.now.first.now c.args.order.now.second.now (offered c.args.order.now) c.args.target.now c.requires.0

pub reaches_on-requires : goal.reaches_on-requires
reaches_on-requires c =
    let sight = offered_sighted c.args.p _ c.args.order.now.first.now c.args.order.now.second.now (offered c.args.order.now) c.args.target.now c.requires.0 in
    let prompt = c.is_prompt.ensures (c.if-not-is_prompt.false) in
    let some = offered_second c.args.p _ c.args.order.now.first.now c.args.order.now.second.now (offered c.args.order.now) in
    guard_asked c.args.p _ c.args.order.now.first.now c.args.order.now.second.now c.args.target.now sight prompt some

pub guarded_columns-run-requires : goal.guarded_columns-run-requires
guarded_columns-run-requires c =
    let sight = offered_sighted c.args.p _ c.args.order.now.first.now c.args.order.now.second.now (offered c.args.order.now) c.args.target.now c.requires.0 in
    let prompt = c.is_prompt.ensures (c.if-not-is_prompt.false) in
    let some = offered_second c.args.p _ c.args.order.now.first.now c.args.order.now.second.now (offered c.args.order.now) in
    let w = guard_within c.args.p _ c.args.order.now.first.now c.args.order.now.second.now c.args.target.now sight prompt some (c.reaches_on.ensures (c.if-not-reaches_on.false)).0 in
    (refl, w.0, w.1)

pub glance_guarded-requires : goal.glance_guarded-requires
glance_guarded-requires c =
    let room = room_kept _ _ _ c.guarded_columns-run.ensures.0 c.requires.0 in
    (room, offered_modest c.args.p _ c.args.order.now.first.now c.args.order.now.second.now (offered c.args.order.now) _ _ room (le_refl _), offered_second c.args.p _ c.args.order.now.first.now c.args.order.now.second.now (offered c.args.order.now))

pub returns : goal.returns
returns c = (
  c.guarded_columns-run.ensures.0,
  c.glance_guarded.ensures c.args.order.now.first.now c.args.order.now.second.now (guards c.args.p _ c.args.order.now.first.now c.args.order.now.second.now c.args.target.now _ c.guarded_columns-run.ensures.0 _ c.if-run.false c.requires.1 (c.reaches_on.ensures (c.if-not-reaches_on.false)).1 c.guarded_columns-run.ensures.1),
)
