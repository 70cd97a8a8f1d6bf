-- `settle::enough`: a directed way asks for p digits, nearest for one below them too.
use Rattle.settle.specs.Ways.{theory_way}
use Rattle.lean.proofs.Flags.{enough_near, enough_under, enough_over}
use Rattle.lean.proofs.enough.Goals as goal

pub returns-in-Near : goal.returns-in-Near
unfolding theory_way
returns-in-Near c = λ p D t. rw c.in-Near.is (enough_near p D _ t)

pub returns-in-Under : goal.returns-in-Under
unfolding theory_way
returns-in-Under c = λ p D t. rw c.in-Under.is (enough_under p D _ t)

pub returns-in-Over : goal.returns-in-Over
unfolding theory_way
returns-in-Over c = λ p D t. rw c.in-Over.is (enough_over p D _ t)
