-- `settle::is_hole_fixed`: by cases, as the definition.
use Rattle.decide.specs.Table.{hole?}
use Rattle.settle.specs.Ways.{theory_way}
use Rattle.hole.proofs.is_hole_fixed.Goals as goal

pub returns-in-Near : goal.returns-in-Near
unfolding theory_way hole?
returns-in-Near c = rw c.in-Near.is

pub returns-in-Under : goal.returns-in-Under
unfolding theory_way hole?
returns-in-Under c = rw c.in-Under.is

pub returns-in-Over : goal.returns-in-Over
unfolding theory_way hole?
returns-in-Over c = rw c.in-Over.is
