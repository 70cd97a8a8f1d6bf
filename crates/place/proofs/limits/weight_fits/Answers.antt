-- `place::limits::weight_fits` is right since its number is that of the limits. Assumes nothing.
use mathlib.Core.Path.{refl}
use Rattle.numbers.specs.Limits.{most_exponent, bias}
use Rattle.place.proofs.limits.weight_fits.Goals as goal

pub returns : goal.returns
unfolding most_exponent bias
returns c = refl
