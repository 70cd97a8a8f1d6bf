-- `settle::leans`: nothing at all is even; else a directed way leans one way, and nearest by the half and, at it, by what lies below and the last digit.
use mathlib.Core.Path.{sym}
use Rattle.settle.specs.Ways.{theory_way}
use Rattle.lean.specs.Leaning.{lean_is}
use Rattle.lean.proofs.Flags.{lean_even, under_low, over_high, near_high, near_low}
use Rattle.lean.proofs.leans.Goals as goal

pub returns-then-x-more : goal.returns-then-x-more
unfolding lean_is
returns-then-x-more c = λ q u d f. sym (lean_even q u d _ _ _ _ f _ _ c.if-x-more.true)

pub returns-in-Under : goal.returns-in-Under
unfolding lean_is theory_way
returns-in-Under c = λ q u d f. rw c.in-Under.is (sym (under_low q u d _ _ _ _ f _ c.if-x-more.false))

pub returns-in-Over : goal.returns-in-Over
unfolding lean_is theory_way
returns-in-Over c = λ q u d f. rw c.in-Over.is (sym (over_high q u d _ _ _ _ f _ c.if-x-more.false))

pub returns-then-x-more-2 : goal.returns-then-x-more-2
unfolding lean_is theory_way
returns-then-x-more-2 c = λ q u d f. rw c.in-Near.is (sym (near_high q u d _ _ _ _ f _ c.if-x-more.false c.if-x-more-2.true))

pub returns-else-x-more-2 : goal.returns-else-x-more-2
unfolding lean_is theory_way
returns-else-x-more-2 c = λ q u d f. rw c.in-Near.is (sym (near_low q u d _ _ _ _ f _ c.if-x-more.false c.if-x-more-2.false))
