-- `admission::check_converted`: the quick tests find nothing to refuse, or the ordered tests say what. Assumes nothing.
use mathlib.Core.Path.{sym, ◌∙◌}
use Rattle.checks.specs.Number.{operand_of}
use Rattle.checks.specs.Check.{accepted}
use Rattle.refusals.proofs.Places.{pair_converted}
use Rattle.checks.proofs.Passing.{converted_passes}
use Rattle.admission.proofs.check_converted.Goals as goal

pub returns-then-one_passes : goal.returns-then-one_passes
unfolding accepted
returns-then-one_passes c = let b = c.one_passes.ensures c.if-one_passes.true in sym (converted_passes _ _ b.0 b.1)

pub returns : goal.returns
unfolding operand_of
returns c = rw c.copied-alike.ensures at c.refuse_operands.ensures ∙ pair_converted _ _
