-- `checks::precision_holds`: the two comparisons of the definition. Assumes nothing.
use mathlib.Core.Path.{refl}
use Rattle.numbers.specs.Limits.{least_precision, most_precision}
use Rattle.checks.specs.Check.{precision_holds}
use Rattle.checks.proofs.precision_holds.Goals as goal

pub returns : goal.returns
unfolding precision_holds least_precision most_precision
returns c = refl
