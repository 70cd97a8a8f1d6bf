-- `fused::fuse` is right since after i limbs the lowest i limbs of the runs give the target's lowest i limbs, with the carry on top.
-- Assumes nothing.
use Rattle.std.proofs.Common.{◌≡◌, ◌*◌, ◌/◌, ◌^◌, length, refl, arith}
use Rattle.limb.specs.Value.{Below}
use Rattle.limb.proofs.Value.{value_lt}
use Rattle.fused.proofs.Walking.{none_fused, fused_by, four_fused, all_fused}
use Rattle.fused.proofs.fuse.Goals as goal

pub loop-turn-init : goal.loop-turn-init
loop-turn-init g c = none_fused _ _ _ _ _ g.met.S.Step.begins _ refl

pub loop-turn-preserved : goal.loop-turn-preserved
loop-turn-preserved g c =
    let l = c.loop-turn in
    let a : Below (2 ^ 64) c.args.a.now = λ i. (c.shared_slice_known-1.given i).fits in
    let b : Below (2 ^ 64) c.args.b.now = λ i. (c.shared_slice_known-2-1.given i).fits in
    four_fused _ g.met.S.Step.joins _ _ a b _ _ l.target _ _ _ _ (4 * l.turn) _ l.carry _ _ _ _ (omega arith) (omega arith)
    c.set_limb-carry.ensures c.set_limb-carry-in-loop-turn.ensures c.set_limb-carry-in-loop-turn-2.ensures c.set_limb-carry-in-loop-turn-3.ensures l.invariant

pub loop-i-init : goal.loop-i-init
loop-i-init g c =
    let l = c.loop-turn in
    let all : 4 * l.turn ≡ 4 * (length c.args.target.now / 4) = omega arith in
    rw all at l.invariant

pub loop-i-preserved : goal.loop-i-preserved
loop-i-preserved g c =
    let l = c.loop-i in
    let a : Below (2 ^ 64) c.args.a.now = λ i. (c.shared_slice_known-1.given i).fits in
    let b : Below (2 ^ 64) c.args.b.now = λ i. (c.shared_slice_known-2-1.given i).fits in
    fused_by _ g.met.S.Step.joins _ _ a b _ _ l.target _ l.i _ l.carry _ refl (omega arith) c.set_limb-carry-in-loop-i.ensures l.invariant

pub returns : goal.returns
returns g c =
    let l = c.loop-i in
    let a : Below (2 ^ 64) c.args.a.now = λ i. (c.type_inv.a i).fits in
    let b : Below (2 ^ 64) c.args.b.now = λ i. (c.type_inv.b i).fits in
    all_fused _ _ _ _ _ l.target l.carry l.i (omega arith) (rw c.requires.0 at (value_lt (2 ^ 64) c.args.a.now a)) (rw c.requires.1 at (value_lt (2 ^ 64) c.args.b.now b)) l.invariant
