-- `settle::is_high`: the constant is the largest exponent.
use mathlib.Core.Path.{refl}
use Rattle.numbers.specs.Limits.{bias, most_exponent}
use Rattle.bounds.proofs.is_high.Goals as goal

pub returns : goal.returns
unfolding bias most_exponent
returns c = refl
