-- `wide::fill` is right whichever way it goes. Assumes nothing.
use mathlib.Core.Path.{sym, ◌∙◌}
use Prim.Native.Nat.{ℕ, ◌+◌, ◌≤◌}
use native.Mathlib.Omega.{arith}
use Rattle.wide.proofs.Offering.{offered}
use Rattle.wide.proofs.FullTarget.{offered_modest}
use Rattle.wide.proofs.filling.fill.Goals as goal

near : (n : ℕ) → n ≤ n + 1
near n = omega arith

pub is_hollow-requires : goal.is_hollow-requires
is_hollow-requires c = offered_modest c.args.p _ c.args.order.now.first.now c.args.order.now.second.now (offered c.args.order.now) _ _ c.requires (near _)

pub fill_hollow-requires : goal.fill_hollow-requires
fill_hollow-requires c = (c.requires, sym c.is_hollow.ensures ∙ c.if-is_hollow.true)

pub needs_guard-requires : goal.needs_guard-requires
needs_guard-requires c = offered_modest c.args.p _ c.args.order.now.first.now c.args.order.now.second.now (offered c.args.order.now) _ _ c.requires (near _)

pub fill_guarded-requires : goal.fill_guarded-requires
fill_guarded-requires c = (c.requires, c.needs_guard.ensures c.if-needs_guard.true)
