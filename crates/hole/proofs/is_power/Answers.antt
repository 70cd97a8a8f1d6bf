-- `settle::is_power`: the first digit is 1, so the number is a power of two where all below it are 0.
use mathlib.Core.Path.{◌∙◌}
use native.Mathlib.Omega.{arith}
use Rattle.hole.proofs.Holes.{limbs_some, limbs_few, power_is}
use Rattle.hole.proofs.is_power.Goals as goal

pub overflow_mul-limbs : goal.overflow_mul-limbs
overflow_mul-limbs c = omega (arith, limbs_few _ _ c.requires)

pub overflow_sub-limbs : goal.overflow_sub-limbs
overflow_sub-limbs c = omega (arith, limbs_some _ _ c.requires)

pub returns : goal.returns
returns c = c.low_is_zero.ensures ∙ power_is _ _ c.requires (λ i. (c.type_inv.limbs i).fits)
