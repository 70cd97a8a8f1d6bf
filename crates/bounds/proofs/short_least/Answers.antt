-- `settle::short_least`: with too few digits the least goes up only under nearest, from p ones and at a tie.
use Rattle.settle.specs.Ways.{theory_way}
use Rattle.bounds.proofs.Ranges.{least_near, least_directed}
use Rattle.bounds.proofs.short_least.Goals as goal

pub returns-in-Near : goal.returns-in-Near
unfolding theory_way
returns-in-Near c = λ D d o e. rw c.in-Near.is (least_near _ D _ o _ _ d (rw c.in-Near.is at e))

pub returns-in-Under : goal.returns-in-Under
unfolding theory_way
returns-in-Under c = λ D d o e. rw c.in-Under.is (least_directed _ D _).0

pub returns-in-Over : goal.returns-in-Over
unfolding theory_way
returns-in-Over c = λ D d o e. rw c.in-Over.is (least_directed _ D _).1
