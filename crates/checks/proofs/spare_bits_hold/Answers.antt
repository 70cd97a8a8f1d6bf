-- `checks::spare_bits_hold`: with no limb the definition reads 0, and else the lowest limb. Assumes nothing.
use Rattle.checks.specs.Check.{spare_bits_hold}
use Rattle.checks.proofs.Tests.{empty_spare}
use Rattle.checks.proofs.spare_bits_hold.Goals as goal

pub returns-then-l-eq0 : goal.returns-then-l-eq0
returns-then-l-eq0 c = empty_spare _ _ c.if-l-eq0.true

pub returns : goal.returns
unfolding spare_bits_hold
returns c = c.low_holds.ensures
