-- `ordering::are_regular`: each of the two says so of its own. Assumes nothing.
use mathlib.Core.Path.{sym}
use mathlib.Core.Bool.{true≢false}
use Rattle.sheafbuckle.proofs.Quick.{regular_said}
use Rattle.sheafbuckle.proofs.ordering.are_regular.Goals as goal

pub returns-then-not-regular_passes : goal.returns-then-not-regular_passes
returns-then-not-regular_passes c h = absurd (true≢false (sym h))

pub returns : goal.returns
returns c h =
    let first = regular_said _ _ _ c.from.ensures (c.regular_passes.ensures (c.if-not-regular_passes.false)) in
    let second = regular_said _ _ _ c.from-2.ensures (c.regular_passes-2.ensures h) in
    (first.0, first.1, second.0, second.1)
