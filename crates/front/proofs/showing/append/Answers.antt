-- `front::showing::append` is right since what the new column does to the tail passes to the first column. Assumes nothing.
use native.Mathlib.Omega.{arith}
use Rattle.front.proofs.Stepping.{column_below}
use Rattle.front.proofs.showing.append.Goals as goal

pub returns : goal.returns
returns c =
    let g = c.args in
    let u = c.pass_tail-under in
    let h = c.changed in
    column_below g.front h.result g.low g.change u.result.up u.result.left (omega arith) u.ensures h.ensures
