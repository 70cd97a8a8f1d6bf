-- `place::limits::precision_fits` is right since its numbers are those of the limits. Assumes nothing.
use mathlib.Core.Path.{refl}
use Rattle.numbers.specs.Limits.{least_precision, most_precision}
use Rattle.place.proofs.limits.precision_fits.Goals as goal

pub returns : goal.returns
unfolding least_precision most_precision
returns c = refl
