-- `admission::check_alone`: the quick tests find nothing to refuse, or the ordered tests say what. Assumes nothing.
use mathlib.Core.Path.{sym, ◌∙◌}
use Rattle.checks.specs.Number.{operand_of}
use Rattle.checks.specs.Check.{accepted}
use Rattle.refusals.proofs.Places.{pair_alone}
use Rattle.checks.proofs.Passing.{alone_passes}
use Rattle.admission.proofs.check_alone.Goals as goal

pub returns-then-passes : goal.returns-then-passes
unfolding accepted
returns-then-passes c = sym (alone_passes _ (c.passes.ensures.0 c.if-passes.true))

pub returns : goal.returns
unfolding operand_of
returns c = rw c.copied-alike.ensures at c.refuse_operands.ensures ∙ pair_alone _
