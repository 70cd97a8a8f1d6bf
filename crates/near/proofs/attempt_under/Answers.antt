-- `near::attempt_under` is right since what fills the target is rounded once, and all limbs of both operands are used. Assumes nothing.
use mathlib.Core.Path.{◌∙◌}
use native.Mathlib.Omega.{arith}
use Rattle.descent.proofs.GoingDown.{room_kept, room_some}
use Rattle.wide.proofs.InOrder.{depth_told}
use Rattle.near.proofs.Alongside.{all_used, used_alike}
use Rattle.near.proofs.attempt_under.Goals as goal

pub round-placed-requires : goal.round-placed-requires
round-placed-requires c =
    let f = c.in_ok-filled.ensures in
    let rounds = f.1 c.args.mode _ _ c.args.order.now.held in
    (room_kept _ _ _ f.0 c.requires.0, (rounds.near, rounds.led, λ x y h sign. f.1 c.args.mode x y h))

pub returns : goal.returns
returns c = rw c.by_fields.ensures (
    let f = c.in_ok-filled.ensures in
    let r = c.round-placed.ensures in
    let beside = c.requires.1 in
    let some = room_some _ _ c.requires.0 in (
      r.0 ∙ f.0,
      λ z w h sign. depth_told c.args.p _ _ _ _ (room_kept _ _ _ f.0 c.requires.0) _ _ h c.args.mode _ (f.1 _ _ _ h) _ sign (r.1 z w h sign)
          (used_alike c.args.order.now.swapped (all_used _ 0 _ _ c.args.order.now.first.now (omega arith) some f.2 f.0 beside.first_long) (all_used _ _ _ _ c.args.order.now.second.now beside.close some f.2 f.0 beside.second_long)),
    ))
