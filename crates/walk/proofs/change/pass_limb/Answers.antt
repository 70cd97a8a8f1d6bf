-- `walk::change::pass_limb` is right since a limb holds a change by one unless it is all ones, or 0 for a borrow. Assumes nothing.
use native.Mathlib.Omega.{arith}
use Rattle.walk.proofs.Moving.{limb_changed}
use Rattle.walk.proofs.change.pass_limb.Goals as goal

pub returns : goal.returns
returns c =
    let r = c.change_limb-next in
    (omega arith, rw (c.in-Some.is, c.then_some.ensures) (limb_changed c.in-Some.by_one c.args.limb r.result.limb r.result.carry (omega arith) r.ensures))
