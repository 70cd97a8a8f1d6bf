-- `reading::is_settled` is right since its two rows are the two class tests. Assumes nothing.
use Rattle.bridge.specs.Verdict.{settled_by}
use Rattle.deep.specs.Reading.{inner_row}
use Rattle.deep.proofs.reading.is_settled.Goals as goal

pub returns-then-same : goal.returns-then-same
unfolding settled_by inner_row
returns-then-same c = rw c.if-same.true (λ p D r P. c.settled_plus.ensures p D r)

pub returns-else-same : goal.returns-else-same
unfolding settled_by inner_row
returns-else-same c = rw c.if-same.false (λ p D r P. c.settled_minus.ensures p D r P)
