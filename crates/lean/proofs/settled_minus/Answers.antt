-- `settle::settled_minus`: where the rest is not 0, the unit below D keeps the same digits, and the two ends part only at a half that the greatest passes or that goes up.
use mathlib.Core.Path.{sym, ap, ◌∙◌}
use Rattle.settle.specs.Ways.{theory_way}
use Rattle.lean.proofs.Minus.{minus_few, minus_zero, minus_under, minus_over, minus_near}
use Rattle.lean.proofs.settled_minus.Goals as goal

pub returns-then-not-enough : goal.returns-then-not-enough
returns-then-not-enough c = λ p D t P. minus_few _ p D _ (sym (c.enough.ensures p D t) ∙ c.if-not-enough.true)

pub returns-then-x : goal.returns-then-x
returns-then-x c = λ p D t P. minus_zero _ p D _ t P _ (sym (c.enough.ensures p D t) ∙ c.if-not-enough.false) c.if-x.true

pub returns-in-Under : goal.returns-in-Under
unfolding theory_way
returns-in-Under c = λ p D t P. minus_under _ p D _ t P _ (sym (c.enough.ensures p D t) ∙ c.if-not-enough.false) c.if-x.false (ap theory_way c.in-Under.is)

pub returns-in-Over : goal.returns-in-Over
unfolding theory_way
returns-in-Over c = λ p D t P. minus_over _ p D _ t P _ (sym (c.enough.ensures p D t) ∙ c.if-not-enough.false) c.if-x.false (ap theory_way c.in-Over.is)

pub returns-in-Near : goal.returns-in-Near
unfolding theory_way
returns-in-Near c = λ p D t P. minus_near _ p D _ t P _ (sym (c.enough.ensures p D t) ∙ c.if-not-enough.false) c.if-x.false (ap theory_way c.in-Near.is)
