-- `front::step` is right since the limb of the sum or the difference stands below, and its carry or borrow changes what is above by one. Assumes nothing.
use native.Mathlib.Omega.{arith}
use Rattle.front.proofs.Stepping.{sum_steps, difference_steps}
use Rattle.front.proofs.showing.step.Goals as goal

pub returns-then-same : goal.returns-then-same
returns-then-same c =
    let g = c.args in
    let s = c.add_carry-s in
    rw c.if-same.true (sum_steps g.front c.append.result g.a g.b s.result.limb s.result.carry s.ensures (rw c.then_some.ensures at c.append.ensures))

pub returns : goal.returns
returns c =
    let g = c.args in
    let d = c.sub_borrow-d in
    rw c.if-same.false
    (difference_steps g.front c.append-2.result g.a g.b d.result.limb (omega arith) d.result.carry d.ensures (rw c.then_some-2.ensures at c.append-2.ensures))
