-- `wide::round` is right since the run that fills the target is rounded once. Assumes nothing.
use native.Mathlib.Omega.{arith}
use Rattle.wide.proofs.InOrder.{limbs_weigh, unit_room, fit, left_told}
use Rattle.wide.proofs.rounding_off.round.Goals as goal

pub overflow_mul-target : goal.overflow_mul-target
overflow_mul-target c = let w = limbs_weigh c.args.p _ c.requires.0 in omega arith

pub overflow_sub-order : goal.overflow_sub-order
overflow_sub-order c = unit_room c.args.p _ c.requires.0 _ _ _ _ _ c.args.order.now.held

pub round_fit-requires : goal.round_fit-requires
round_fit-requires c = let f = c.requires.1 in fit c.args.p _ _ _ _ c.requires.0 _ _ c.args.order.now.held _ f.1

pub returns : goal.returns
returns c =
    let r = c.round_fit in
    (r.auto.target, λ x y h sign. left_told c.args.p _ _ _ _ c.requires.0 x y h c.args.mode c.args.filled (c.requires.1.2 x y h sign) _ sign r.ensures.value r.ensures.target_after)
