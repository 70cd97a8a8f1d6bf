-- `checks::form_holds`: a zero holds, and a regular number by its two tests. Assumes nothing.
use mathlib.Core.Path.{sym, ◌∙◌}
use Rattle.checks.proofs.Tests.{zero_form, regular_form}
use Rattle.checks.proofs.form_holds.Goals as goal

pub returns-then-is_zero : goal.returns-then-is_zero
returns-then-is_zero c = zero_form _ _ (sym c.is_zero.ensures ∙ c.if-is_zero.true)

pub returns : goal.returns
returns c = regular_form _ _ _ _ (sym c.is_zero.ensures ∙ c.if-is_zero.false) c.top_bit_holds.ensures c.spare_bits_hold.ensures
