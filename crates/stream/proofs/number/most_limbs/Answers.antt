-- `stream::most_limbs`: the limbs of the largest precision. Assumes nothing.
use mathlib.Core.Path.{refl}
use Rattle.numbers.specs.Limits.{most_precision, limbs_for}
use Rattle.desklines.specs.Written.{most_limbs}
use Rattle.stream.proofs.number.most_limbs.Goals as goal

pub returns : goal.returns
unfolding most_limbs limbs_for most_precision
returns c = refl
