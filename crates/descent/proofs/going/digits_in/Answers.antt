-- `descent::going::digits_in` is right since a column below the guard has 64 digits of D, and those above are counted. Assumes nothing.
use Rattle.descent.proofs.JudgingRange.{filled_room, guard_room, digits_guarded, digits_open}
use mathlib.Core.Path.{sym, ◌∙◌}
use native.Mathlib.Omega.{arith}
use Rattle.descent.proofs.going.digits_in.Goals as goal

pub overflow_sub-below-2 : goal.overflow_sub-below-2
overflow_sub-below-2 c = filled_room _ _ _ _ c.requires.1

pub overflow_sub-result : goal.overflow_sub-result
overflow_sub-result c = guard_room _ _ _ _ c.requires.1 (sym c.is_some.ensures ∙ c.if-is_some.true)

pub overflow_add-result : goal.overflow_add-result
overflow_add-result c = record { fits = omega (arith, (digits_guarded _ _ _ _ c.requires.1 _ c.digits_of-digits.ensures (sym c.is_some.ensures ∙ c.if-is_some.true)).0) }

pub returns-then-is_some : goal.returns-then-is_some
returns-then-is_some c = digits_guarded _ _ _ _ c.requires.1 _ c.digits_of-digits.ensures (sym c.is_some.ensures ∙ c.if-is_some.true)

pub overflow_add-result-2 : goal.overflow_add-result-2
overflow_add-result-2 c = record { fits = omega (arith, (digits_open _ _ _ _ c.requires.1 _ c.digits_of-digits.ensures (sym c.is_some.ensures ∙ c.if-is_some.false)).0) }

pub returns : goal.returns
returns c = digits_open _ _ _ _ c.requires.1 _ c.digits_of-digits.ensures (sym c.is_some.ensures ∙ c.if-is_some.false)
