-- `settle::too_large`: the exponent of the least sum against the largest, both raised by the digits read.
use mathlib.Core.Path.{◌∙◌}
use native.Mathlib.Omega.{arith}
use Rattle.limb.proofs.Carry.{bit_le}
use Rattle.bounds.specs.Ends.{is_far, is_next}
use Rattle.bounds.proofs.Ranges.{large_is}
use Rattle.bounds.proofs.too_large.Goals as goal

pub overflow_add-result-2 : goal.overflow_add-result-2
overflow_add-result-2 c = omega (arith, c.digit.ensures, bit_le c.grows-grows.result)

pub overflow_add-result-3 : goal.overflow_add-result-3
overflow_add-result-3 c = omega (arith, c.digit.ensures, bit_le c.grows-grows.result)

pub returns : goal.returns
unfolding is_far is_next
returns c = λ D t d o. large_is _ _ D _ _ _ _ d c.requires.0.above _ _ (c.digit.ensures ∙ c.grows-grows.ensures D _ t o (c.short_least-short.ensures D d o))
