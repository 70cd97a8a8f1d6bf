-- `checks::is_zero`: by kind, as the definition. Assumes nothing.
use Rattle.checks.specs.Number.{is_zero_kind}
use Rattle.checks.proofs.is_zero.Goals as goal

pub returns-in-Zero : goal.returns-in-Zero
unfolding is_zero_kind
returns-in-Zero c = rw c.in-Zero.is

pub returns-in-Regular : goal.returns-in-Regular
unfolding is_zero_kind
returns-in-Regular c = rw c.in-Regular.is
