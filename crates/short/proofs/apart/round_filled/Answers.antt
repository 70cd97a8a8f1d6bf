-- `short::apart::round_filled` is right since what fills the target is rounded once. Assumes nothing.
use mathlib.Core.Path.{refl, ◌∙◌}
use mathlib.Core.List.{[], ◌∷◌}
use native.Mathlib.Omega.{arith}
use Rattle.descent.proofs.GoingDown.{room_kept}
use Rattle.wide.proofs.InOrder.{limbs_weigh, unit_room, fit, in_order_told}
use Rattle.short.proofs.apart.round_filled.Goals as goal

pub overflow_mul-target : goal.overflow_mul-target
overflow_mul-target c = let w = limbs_weigh c.args.p _ (room_kept _ _ _ c.fill-filled.auto.target c.requires.0) in omega arith

pub overflow_sub-pair : goal.overflow_sub-pair
overflow_sub-pair c =
    unit_room c.args.p _ (room_kept _ _ _ c.fill-filled.auto.target c.requires.0) _ (c.args.u ∷ []) (c.requires.2.0 ∷ []) _ _ c.requires.2.1.holding

pub round_fit-requires : goal.round_fit-requires
round_fit-requires c =
    let f = c.fill-filled in
    fit c.args.p _ (c.args.u ∷ []) (c.requires.2.0 ∷ []) _ (room_kept _ _ _ c.fill-filled.auto.target c.requires.0) _ _ c.requires.2.1.holding _ (f.ensures.2 c.requires.2.0 c.args.mode _ _ c.requires.2.1.holding).led

pub returns : goal.returns
returns c =
    let f = c.fill-filled in
    let t = c.target-1 in
    let r = c.round_fit in
    (c.round_fit.auto.target ∙ t.given, λ v z w h sign. (in_order_told c.args.p _ (c.args.u ∷ []) (v ∷ []) _ (room_kept _ _ _ t.given c.requires.0) z w h c.args.mode f.result (f.ensures.2 v _ z w h) c.args.negative sign r.ensures.value r.ensures.target_after (refl, refl)).left)
