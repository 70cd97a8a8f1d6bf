-- `admission::check_compared`: the quick tests find nothing to refuse, or the ordered tests say what. Assumes nothing.
use Rattle.std.proofs.Common.{sym, ◌∙◌}
use Rattle.checks.specs.Number.{operand_of}
use Rattle.checks.specs.Check.{accepted}
use Rattle.checks.proofs.Passing.{compared_passes}
use Rattle.refusals.proofs.Places.{pair_compared}
use Rattle.admission.proofs.check_compared.Goals as goal

pub returns-then-passes-2 : goal.returns-then-passes-2
unfolding accepted
returns-then-passes-2 c = sym (compared_passes _ _ (c.passes.ensures.0 c.if-passes.true) (c.passes-then-passes.ensures.0 c.if-passes-2.true))

pub returns : goal.returns
unfolding operand_of
returns c = rw (c.copied.ensures, c.copied-2.ensures) at c.refuse_operands.ensures ∙ pair_compared _ _
