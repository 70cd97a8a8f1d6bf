-- `walk::state::append` is right since a column fills the next limb of the target, then the guard, and then goes into the tail. Assumes nothing.
use mathlib.Core.Path.{refl, ap}
use Rattle.std.specs.Option.{is_some}
use native.Mathlib.Omega.{arith}
use Rattle.walk.proofs.Showing.{filled_more, guard_set}
use Rattle.walk.proofs.state.append.Goals as goal

pub returns-then-filled-target : goal.returns-then-filled-target
returns-then-filled-target c =
    let g = c.args in
    let h = c.change_at-carry in
    filled_more g.w g.low g.change g.target.now h.new.target _ h.result (ap is_some c.in_default.is) c.if-filled-target.true h.ensures refl

pub returns : goal.returns
returns c =
    let g = c.args in
    let h = c.change_at-carry-2 in
    guard_set g.w g.low g.change g.target.now h.new.target h.result (ap is_some c.in_default.is) (omega arith) (omega arith) h.ensures
