-- `lines::line_size`: by the kind, as the definition. Assumes nothing.
use native.Mathlib.Omega.{arith}
use mathlib.Core.Path.{sym, ◌∙◌}
use Rattle.lines.proofs.Size.{zero_size, regular_size, size_fits}
use Rattle.lines.proofs.line_size.Goals as goal

pub returns-then-is_zero : goal.returns-then-is_zero
returns-then-is_zero c = zero_size _ (sym c.is_zero.ensures ∙ c.if-is_zero.true)

pub overflow_mul-result : goal.overflow_mul-result
overflow_mul-result c = omega (arith, size_fits c.args.x.precision, c.limbs_for.ensures)

pub overflow_add-result : goal.overflow_add-result
overflow_add-result c = omega (arith, size_fits c.args.x.precision, c.limbs_for.ensures)

pub returns : goal.returns
returns c = regular_size _ _ (sym c.is_zero.ensures ∙ c.if-is_zero.false) c.limbs_for.ensures
