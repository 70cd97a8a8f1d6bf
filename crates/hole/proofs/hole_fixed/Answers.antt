-- `settle::hole_fixed`: the digits down to the second operand are the gap and one more, less one where a power of two is lessened; at a tie the last digit decides if it stands next to the gap.
use mathlib.Core.Path.{◌∙◌}
use Rattle.hole.proofs.Holes.{size_formed, hole_is}
use Rattle.hole.proofs.hole_fixed.Goals as goal

pub returns : goal.returns
returns c = λ o a b s. c.is_hole_fixed.ensures ∙ hole_is o _ a b _ _ s _ _ _ (size_formed _ _ c.requires.0.formed (λ i. (c.type_inv.limbs i).fits)) c.requires.0.below c.is_power.ensures c.last_is_one.ensures _ c.hole_digits-digits.ensures
