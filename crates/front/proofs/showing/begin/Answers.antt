-- `front::begin` is right since a limb with its carry is the sum it came from, and a difference that does not go below 0 fits a limb. Assumes nothing.
use mathlib.Core.Path.{refl}
use Rattle.front.proofs.Stepping.{first_sum, first_limb}
use Rattle.front.proofs.showing.begin.Goals as goal

pub returns-then-same : goal.returns-then-same
returns-then-same c =
    let g = c.args in
    let s = c.add_carry-s in
    rw c.if-same.true (refl, first_sum s.result.carry s.result.limb g.u g.low _ s.ensures)

pub overflow_sub-result : goal.overflow_sub-result
overflow_sub-result c = c.requires c.if-same.false

pub returns : goal.returns
returns c = rw c.if-same.false (refl, first_limb _ _)
