-- `walk::state::append_tail` is right since what the new column does to the tail passes to the guard, and from there to the target. Assumes nothing.
use mathlib.Core.Path.{ap}
use native.Mathlib.Omega.{arith}
use Rattle.std.specs.Option.{is_some}
use Rattle.walk.proofs.Showing.{tail_longer}
use Rattle.walk.proofs.state.append_tail.Goals as goal

pub returns : goal.returns
returns c =
    let g = c.args in
    let t = c.pass_tail-under in
    let l = c.pass_limb-here in
    let h = c.change_at-carry in
    tail_longer g.w g.low g.change g.target.now h.new.target h.result t.result.up l.result.up l.result.left t.result.left (ap is_some c.requires.1) (omega arith) l.ensures.0
    t.ensures (rw c.requires.1 l.ensures.1) h.ensures
