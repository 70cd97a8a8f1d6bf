-- `fused::fuse_moved` is right since after i turns the lowest i limbs of a and of b moved down give the target's lowest i limbs, with the
-- carry on top, and the last limb has nothing above it to take bits from. Assumes nothing.
use Rattle.std.proofs.Common.{◌≡◌, ◌+◌, ◌-◌, ◌^◌, length, refl, ◌∙◌, arith, rules}
use Rattle.limb.specs.Value.{Below}
use Rattle.limb.proofs.Value.{value_lt}
use Rattle.shifts.proofs.Windows.{limb_bits}
use Rattle.fused.proofs.Moving.{moved_limb, last_moved, moved_lt}
use Rattle.fused.proofs.Walking.{none_fused, limb_fused, all_fused}
use Rattle.fused.proofs.fuse_moved.Goals as goal

pub loop-i-init : goal.loop-i-init
loop-i-init g c = (search rules, none_fused _ _ _ _ _ g.met.S.Step.begins _ refl)

pub loop-i-preserved : goal.loop-i-preserved
loop-i-preserved g c =
    let l = c.loop-i in
    let a : Below (2 ^ 64) c.args.a.now = λ i. (c.shared_slice_known-1.given i).fits in
    let b : Below (2 ^ 64) c.args.b.now = λ i. (c.shared_slice_known-2-1.given i).fits in (
      search rules,
      limb_fused _ _ _ _ _ g.met.S.Step.joins l.target _ l.i _ _ l.up _ (omega arith) (limb_bits _ l.i a)
          (c.moved.ensures ∙ moved_limb c.args.b.now c.args.gap c.requires.4 b l.i l.low _ l.invariant.0 refl) c.set_limb-up.ensures l.invariant.1,
    )

pub returns : goal.returns
returns g c =
    let l = c.loop-i in
    let n = length c.args.target.now in
    let last : l.i ≡ n - 1 = omega arith in
    let a : Below (2 ^ 64) c.args.a.now = λ i. (c.shared_slice_known-1.given i).fits in
    let b : Below (2 ^ 64) c.args.b.now = λ i. (c.shared_slice_known-2-1.given i).fits in
    all_fused _ _ _ _ n _ _ (n - 1 + 1) (omega arith) (rw c.requires.0 at (value_lt (2 ^ 64) c.args.a.now a)) (moved_lt c.args.b.now c.args.gap c.requires.4 b n c.requires.1)
    (limb_fused _ _ _ _ n g.met.S.Step.joins l.target _ (n - 1) _ _ l.up _ (omega arith) (limb_bits _ (n - 1) a)
    (last_moved c.args.b.now c.args.gap c.requires.4 b (n - 1) l.low (rw last at l.invariant.0) (omega arith)) c.set_limb.ensures (rw last at l.invariant.1))
