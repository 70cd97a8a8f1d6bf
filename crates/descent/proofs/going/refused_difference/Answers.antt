-- `descent::going::refused_difference` is right since only a difference near the least exponent can be too small, and then the test of its greatest end says so; below all that is read nothing is certain. Assumes nothing.
use native.Mathlib.Omega.{arith}
use mathlib.Core.Path.{sym, ◌∙◌}
use Rattle.descent.proofs.JudgingRange.{limbs_few, difference_far, difference_high, difference_refused, difference_open}
use Rattle.descent.proofs.going.refused_difference.Goals as goal

pub returns-then-k-pair : goal.returns-then-k-pair
returns-then-k-pair c = λ D s e r unlike. difference_far _ _ _ _ _ _ c.requires.1 D e unlike c.if-k-pair.true

pub returns-then-not-is_low : goal.returns-then-not-is_low
returns-then-not-is_low c = λ D s e r unlike. difference_high _ _ _ _ _ _ c.requires.1 D e unlike (omega (arith, c.if-k-pair.false)) (sym c.is_low.ensures ∙ c.if-not-is_low.true)

pub digits_in-digits-requires : goal.digits_in-digits-requires
digits_in-digits-requires c = (limbs_few _ _ c.requires.0, c.requires.1)

pub returns-then-too_small : goal.returns-then-too_small
returns-then-too_small c = λ D s e r unlike. difference_refused _ _ _ _ _ _ c.requires.1 D e unlike (omega (arith, c.if-k-pair.false)) _ (c.too_small.ensures D r (c.digits_in-digits.ensures.1 D s) (c.ones_in-ones.ensures D s (c.digits_in-digits.ensures.1 D s))) c.if-too_small.true

pub returns-else-too_small : goal.returns-else-too_small
returns-else-too_small c = λ D s e r unlike. difference_open _ _ _ _ _ _ c.requires.1 D e unlike (omega (arith, c.if-k-pair.false)) _ (c.too_small.ensures D r (c.digits_in-digits.ensures.1 D s) (c.ones_in-ones.ensures D s (c.digits_in-digits.ensures.1 D s))) c.if-too_small.false
