-- `doubles::outside`: as the definition says. Assumes nothing.
use mathlib.Core.Path.{refl}
use Rattle.doubles.specs.Convert.{outside}
use Rattle.doubles.proofs.outside.Goals as goal

pub returns : goal.returns
unfolding outside
returns c = refl
