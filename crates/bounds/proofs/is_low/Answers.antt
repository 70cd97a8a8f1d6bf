-- `settle::is_low`: the constant is the least exponent.
use mathlib.Core.Path.{refl}
use Rattle.numbers.specs.Limits.{bias, least_exponent}
use Rattle.bounds.proofs.is_low.Goals as goal

pub returns : goal.returns
unfolding bias least_exponent
returns c = refl
