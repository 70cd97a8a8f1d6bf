-- `settle::short_most`: with too few digits the greatest goes up where all its digits are 1 and there are more than p.
use Rattle.settle.specs.Ways.{theory_way}
use Rattle.bounds.proofs.Ranges.{most_near, most_under, most_over}
use Rattle.bounds.proofs.short_most.Goals as goal

pub returns-in-Near : goal.returns-in-Near
unfolding theory_way
returns-in-Near c = λ D d o e. rw c.in-Near.is (most_near _ D _ o _ _ d (rw c.in-Near.is at e))

pub returns-in-Under : goal.returns-in-Under
unfolding theory_way
returns-in-Under c = λ D d o e. rw c.in-Under.is (most_under _ D _)

pub returns-in-Over : goal.returns-in-Over
unfolding theory_way
returns-in-Over c = λ D d o e. rw c.in-Over.is (most_over _ D _ o _ _ d (rw c.in-Over.is at e))
