-- `admission::check_pair`: the quick tests find nothing to refuse, or the ordered tests say what. Assumes nothing.
use mathlib.Core.Path.{sym}
use Rattle.checks.specs.Check.{accepted}
use Rattle.checks.proofs.Passing.{copies_refused}
use Rattle.admission.proofs.check_pair.Goals as goal

pub returns-then-pair_passes : goal.returns-then-pair_passes
unfolding accepted
returns-then-pair_passes c = sym (c.pair_passes.ensures c.if-pair_passes.true)

pub returns : goal.returns
returns c = copies_refused _ _ _ _ _ c.refuse.ensures c.copied.ensures c.copied-2.ensures
