-- `admission::check_single`: the quick tests find nothing to refuse, or the ordered tests say what. Assumes nothing.
use mathlib.Core.Path.{sym, ◌∙◌}
use Rattle.checks.specs.Check.{accepted}
use Rattle.refusals.proofs.Places.{pair_single}
use Rattle.admission.proofs.check_single.Goals as goal

pub returns-then-single_passes : goal.returns-then-single_passes
unfolding accepted
returns-then-single_passes c = sym (c.single_passes.ensures c.if-single_passes.true)

pub returns : goal.returns
returns c = rw c.copied-alike.ensures at c.refuse.ensures ∙ pair_single _ _ _ _
