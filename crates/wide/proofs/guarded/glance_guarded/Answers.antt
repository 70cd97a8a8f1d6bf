-- `wide::glance_guarded` is right since a full target and a guard whose rest is known, or lies inside a half, fix the answer. Assumes nothing.
use mathlib.Core.Path.{sym, ◌∙◌}
use native.Mathlib.Omega.{arith}
use Rattle.descent.proofs.GoingDown.{room_some}
use Rattle.wide.proofs.Unread.{row_read}
use Rattle.wide.proofs.GuardBelow.{guard_read, guard_inside, reached_more}
use Rattle.wide.proofs.guarded.glance_guarded.Goals as goal

pub overflow_sub-top : goal.overflow_sub-top
overflow_sub-top c = omega (arith, room_some _ _ c.requires.0)

pub bounds-target-target : goal.bounds-target-target
bounds-target-target c = omega (arith, room_some _ _ c.requires.0)

pub returns-then-is_read : goal.returns-then-is_read
returns-then-is_read c =
    λ first second g o x y h. guard_read _ _ first second _ _ c.requires.0 g (omega arith) (λ i. (c.shared_slice_known-1.given i).fits) c.if-top-le1.false o x y h (row_read _ _ c.requires.2 (sym c.is_read.ensures ∙ c.if-is_read.true))

pub returns : goal.returns
returns c =
    λ first second g o x y h. guard_inside _ _ first second _ _ c.requires.0 g (omega arith) (λ i. (c.shared_slice_known-1.given i).fits) c.if-top-le1.false o x y h (c.is_inside.ensures (c.if-not-is_inside.false)) _ (c.more_below.ensures c.requires.2 (sym c.is_read.ensures ∙ c.if-is_read.false) (reached_more _ _ _ g.spent.reached))
