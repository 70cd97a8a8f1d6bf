-- `settle::too_small`: the exponent of the greatest difference against the least, both raised by the digits read.
use mathlib.Core.Path.{◌∙◌}
use native.Mathlib.Omega.{arith}
use Rattle.limb.proofs.Carry.{bit_le}
use Rattle.bounds.specs.Ends.{open_digits}
use Rattle.bounds.proofs.Ranges.{small_is, small_tail}
use Rattle.bounds.proofs.too_small.Goals as goal

pub overflow_add-result : goal.overflow_add-result
overflow_add-result c = omega (arith, c.digit.ensures, bit_le c.grows-grows.result)

pub overflow_add-result-2 : goal.overflow_add-result-2
overflow_add-result-2 c = omega (arith, c.digit.ensures, bit_le c.grows-grows.result)

pub returns : goal.returns
unfolding open_digits
returns c = λ D t d o. small_tail _ _ _ D _ _ _ c.unread_digits-tail.ensures (small_is _ _ D _ _ _ _ d c.requires.0.above _ _ (c.digit.ensures ∙ c.grows-grows.ensures D _ t o (c.short_most-short.ensures D d o)))
