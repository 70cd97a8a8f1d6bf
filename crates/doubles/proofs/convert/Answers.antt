-- `doubles::convert`: a zero is its own exact case, and any other number is regular. Assumes nothing.
use mathlib.Core.Path.{sym, ◌∙◌}
use Rattle.checks.specs.Number.{operand_of}
use Rattle.doubles.proofs.Cases.{zero_case}
use Rattle.doubles.proofs.convert.Goals as goal

pub returns-then-is_zero : goal.returns-then-is_zero
unfolding operand_of
returns-then-is_zero c = zero_case _ _ _ (sym c.is_zero.ensures ∙ c.if-is_zero.true) c.zero_exact.ensures
