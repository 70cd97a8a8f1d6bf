-- `unpack::field_of`: as the definition says. Assumes nothing.
use mathlib.Core.Path.{refl}
use Rattle.unpack.specs.Double.{exponent_field}
use Rattle.unpack.proofs.field_of.Goals as goal

pub returns : goal.returns
unfolding exponent_field
returns c = refl
