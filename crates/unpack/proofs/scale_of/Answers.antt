-- `unpack::scale_of`: by cases on the field, as the definition. Assumes nothing.
use mathlib.Core.Path.{sym, ◌∙◌}
use borrow.Author.Tests.{eq-eqb, ne_eqb}
use Rattle.unpack.specs.Double.{double_scale, exponent_field}
use Rattle.unpack.proofs.scale_of.Goals as goal

pub returns-then-field-eq0 : goal.returns-then-field-eq0
unfolding double_scale
returns-then-field-eq0 c = rw (eq-eqb (exponent_field c.args.bits) 0 (sym c.field_of-field.ensures ∙ c.if-field-eq0.true))

pub returns : goal.returns
unfolding double_scale
returns c =
    rw (ne_eqb (exponent_field c.args.bits) 0 (λ e. c.if-field-eq0.false (c.field_of-field.ensures ∙ e))) c.field_of-field.ensures
