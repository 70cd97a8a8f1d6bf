-- `far::round_beside` is right since the run that fills the target is rounded as it stands. Assumes nothing.
use native.Mathlib.Omega.{arith}
use Rattle.descent.proofs.GoingDown.{room_kept}
use Rattle.wide.proofs.InOrder.{limbs_weigh}
use Rattle.far.proofs.FirstAlone.{far_unit, far_fit}
use Rattle.far.proofs.round_beside.Goals as goal

pub fill-guard-requires : goal.fill-guard-requires
fill-guard-requires c = c.requires.long

pub overflow_mul-target : goal.overflow_mul-target
overflow_mul-target c =
    let w = limbs_weigh c.args.p _ (room_kept _ _ _ c.fill-guard.auto.target c.requires.room) in
    omega (arith, w)

pub overflow_sub-order : goal.overflow_sub-order
overflow_sub-order c =
    far_unit c.args.p _ c.args.order.now.first.now c.args.target.now c.requires _ _ (λ i. (c.slice_known-2-1.given i).fits) c.fill-guard.ensures

pub round_fit-requires : goal.round_fit-requires
round_fit-requires c =
    far_fit c.args.p _ c.args.order.now.first.now c.args.target.now c.requires _ _ (λ i. (c.slice_known-2-1.given i).fits) c.fill-guard.ensures

pub returns : goal.returns
returns c =
    let r = c.round_fit in
    record {
      run = c.fill-guard.new.target;
      guard = c.fill-guard.result;
      limbs = λ i. (c.slice_known-2-1.given i).fits;
      beside = c.fill-guard.ensures;
      placed = r.ensures.value;
      left = r.ensures.target_after;
    }
