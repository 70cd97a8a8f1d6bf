-- `descent::going::refused_sum` is right since only a sum near the largest exponent can be too large, and then the test of its least end says so. Assumes nothing.
use Rattle.descent.proofs.JudgingRange.{limbs_few, sum_low, sum_refused, sum_open}
use mathlib.Core.Path.{sym, ◌∙◌}
use Rattle.descent.proofs.going.refused_sum.Goals as goal

pub returns-then-not-is_high : goal.returns-then-not-is_high
returns-then-not-is_high c = λ D s e r same. sum_low _ _ _ _ _ _ c.requires.1 D e same (sym c.is_high.ensures ∙ c.if-not-is_high.true)

pub digits_in-digits-requires : goal.digits_in-digits-requires
digits_in-digits-requires c = (limbs_few _ _ c.requires.0, c.requires.1)

pub returns-then-too_large : goal.returns-then-too_large
returns-then-too_large c = λ D s e r same. sum_refused _ _ _ _ _ _ c.requires.1 D e same _ (c.too_large.ensures D r (c.digits_in-digits.ensures.1 D s) (c.ones_in-ones.ensures D s (c.digits_in-digits.ensures.1 D s))) c.if-too_large.true

pub returns-else-too_large : goal.returns-else-too_large
returns-else-too_large c = λ D s e r same. sum_open _ _ _ _ _ _ c.requires.1 D e same _ (c.too_large.ensures D r (c.digits_in-digits.ensures.1 D s) (c.ones_in-ones.ensures D s (c.digits_in-digits.ensures.1 D s))) c.if-too_large.false
