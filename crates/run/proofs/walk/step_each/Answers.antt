-- `run::step_each` is right since after i turns the target's lowest i limbs are one column of those that stood there and the operand's,
-- with the carry on top, and the limbs from i on stand as they did. Assumes nothing.
use Rattle.std.proofs.Common.{arith}
use Rattle.run.proofs.Stepping.{none_stepped, limb_stepped, all_stepped}
use Rattle.run.proofs.walk.step_each.Goals as goal

pub loop-i-init : goal.loop-i-init
loop-i-init g c = none_stepped _ g.met.S.Step.begins _ _ _

pub loop-i-preserved : goal.loop-i-preserved
loop-i-preserved g c =
    let l = c.loop-i in
    limb_stepped _ g.met.S.Step.joins _ _ _ l.target l.up l.i _ _ _ (omega arith) c.limb_at.ensures c.limb-s.ensures l.invariant

pub returns : goal.returns
returns g c =
    let l = c.loop-i in
    all_stepped _ _ _ _ _ _ l.i (omega arith) l.invariant
