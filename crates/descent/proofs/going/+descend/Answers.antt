-- `descend` is right since it goes on only where the columns read fix nothing, and stops at the first that do. Assumes nothing.
use Rattle.std.proofs.Common.{ℕ, ◌+◌, ◌-◌, ◌<◌, sym, ◌∙◌, subst}
use Rattle.depth.specs.Bound.{deepest}
use Rattle.descent.proofs.GoingDown.{room_kept, window_fits, column_next, falls, arrived, next_going, next_underway, now_stopped}
use Rattle.descent.proofs.going.+descend.Goals as goal

pub step-next-requires : goal.step-next-requires
step-next-requires t c = window_fits _ _ _ _ _ _ _ _ c.requires.1

pub overflow_add-columns : goal.overflow_add-columns
overflow_add-columns t c = record { fits = column_next _ _ _ _ _ _ _ _ c.requires.1 }

pub judge-verdict-requires : goal.judge-verdict-requires
judge-verdict-requires t c = (room_kept _ _ _ c.step-next.auto.target c.requires.0, arrived _ _ _ _ _ _ _ _ c.requires.1 _ _ c.step-next.ensures)

pub descend-requires : goal.descend-requires
descend-requires t c =
    let u = c.requires.1 in
    let room = room_kept _ _ _ c.step-next.auto.target c.requires.0 in
    (subst (λ (j : ℕ). deepest - (c.args.k + 1) < j) c.decreases (falls _ _ _ _ _ _ _ _ u), (room, next_underway _ _ _ _ _ _ _ _ _ _ _ room c.step-next.ensures c.judge-verdict.ensures (sym c.is_open.ensures ∙ c.if-is_open.true) u))

pub returns-then-is_open : goal.returns-then-is_open
returns-then-is_open t c = λ o x y held going.
    c.descend.ensures o x y held (next_going _ _ _ _ _ _ _ _ _ _ _ (room_kept _ _ _ c.step-next.auto.target c.requires.0) c.step-next.ensures c.judge-verdict.ensures (sym c.is_open.ensures ∙ c.if-is_open.true) o x y held going)

pub returns : goal.returns
returns t c = now_stopped _ _ _ _ _ _ _ _ _ _ _ (room_kept _ _ _ c.step-next.auto.target c.requires.0) c.step-next.ensures c.judge-verdict.ensures (sym c.is_open.ensures ∙ c.if-is_open.false)
