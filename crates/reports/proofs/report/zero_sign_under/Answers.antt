-- `report::zero_sign` is the rule for the sign of a zero sum: no mode changes what two signs give. Assumes nothing.
use Rattle.rounding.specs.Sum.{cancelled, zero_sign}
use Rattle.reports.proofs.report.zero_sign_under.Goals as goal

pub returns-then-a-b : goal.returns-then-a-b
unfolding zero_sign cancelled
returns-then-a-b c = rw c.if-a-b.true

pub returns-else-a-b : goal.returns-else-a-b
unfolding zero_sign cancelled
returns-else-a-b c = rw c.if-a-b.false
