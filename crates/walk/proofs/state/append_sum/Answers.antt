-- `walk::append_sum` is right since the limb of the sum stands below and its carry changes what is above by one. Assumes nothing.
use Rattle.walk.proofs.Walking.{sum_appended}
use Rattle.walk.proofs.state.append_sum.Goals as goal

pub returns : goal.returns
returns c =
    let g = c.args in
    let s = c.add_carry-s in
    let p = c.append in
    sum_appended g.w p.result g.a g.b g.target.now p.new.target s.result.limb s.result.carry s.ensures (rw c.then_some.ensures at p.ensures)
