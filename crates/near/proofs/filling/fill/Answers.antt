-- `near::fill` is right whichever way it goes, and no fewer columns than fill the target fix the answer. Assumes nothing.
use Prim.Native.Nat.{ℕ, ◌+◌, ◌≤◌}
use native.Mathlib.Omega.{arith}
use Rattle.wide.proofs.Offering.{offered}
use Rattle.wide.proofs.FullTarget.{offered_sighted, offered_modest}
use Rattle.std.proofs.lemmas.Option.{IfSome_then}
use Rattle.near.proofs.Alongside.{deep}
use Rattle.near.proofs.filling.fill.Goals as goal

near : (n : ℕ) → n ≤ n + 1
near n = omega arith

pub is_inland-requires : goal.is_inland-requires
is_inland-requires c =
    let g = offered_sighted c.args.p _ c.args.order.now.first.now c.args.order.now.second.now (offered c.args.order.now) c.args.target.now c.requires.0 in
    (g.top, g.target)

pub needs_guard-requires : goal.needs_guard-requires
needs_guard-requires c = offered_modest c.args.p _ c.args.order.now.first.now c.args.order.now.second.now (offered c.args.order.now) _ _ c.requires.0 (near _)

pub fill_guarded-requires : goal.fill_guarded-requires
fill_guarded-requires c = (c.requires.0, c.requires.1, c.needs_guard.ensures c.if-needs_guard.true, c.is_inland.ensures (c.if-not-is_inland.false))

pub returns-then-needs_guard : goal.returns-then-needs_guard
returns-then-needs_guard c =
    let f = c.fill_guarded.ensures in
    (f.0, f.1, IfSome_then _ f.1 (deep c.args.p _ c.args.order.now.first.now c.args.order.now.second.now c.args.target.now c.requires.0 c.requires.1 (c.is_inland.ensures (c.if-not-is_inland.false)) (offered c.args.order.now) _))

pub fill_full-requires : goal.fill_full-requires
fill_full-requires c = (c.requires.0, c.requires.1, c.is_inland.ensures (c.if-not-is_inland.false))

pub returns : goal.returns
returns c =
    let f = c.fill_full.ensures in
    (f.0, f.1, IfSome_then _ f.1 (deep c.args.p _ c.args.order.now.first.now c.args.order.now.second.now c.args.target.now c.requires.0 c.requires.1 (c.is_inland.ensures (c.if-not-is_inland.false)) (offered c.args.order.now) _))
