-- `entry::is_plain`: both operands pass and are regular, and the mode and the target pass, so that nothing is refused. Assumes nothing.
use mathlib.Core.Bool.{false≢true}
use Rattle.checks.proofs.Passing.{pair_passes}
use Rattle.sums.proofs.entry.is_plain.Goals as goal

pub returns-then-p-gt62 : goal.returns-then-p-gt62
returns-then-p-gt62 c = λ h. absurd (false≢true h)

pub returns-then-not-regular_passes : goal.returns-then-not-regular_passes
returns-then-not-regular_passes c = λ h. absurd (false≢true h)

pub returns-then-not-regular_passes-2 : goal.returns-then-not-regular_passes-2
returns-then-not-regular_passes-2 c = λ h. absurd (false≢true h)

pub returns : goal.returns
returns c = λ h.
    let first = c.regular_passes.ensures (c.if-not-regular_passes.false) in
    let second = c.regular_passes-2.ensures (c.if-not-regular_passes-2.false) in
    let t = c.narrow_passes.ensures h in
    (pair_passes _ _ _ _ _ t.0 first.0 second.0 t.1, t.2, first.1, second.1)
