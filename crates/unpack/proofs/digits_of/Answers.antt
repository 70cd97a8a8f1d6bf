-- `unpack::digits_of`: by cases on the field, as the definition. Assumes nothing.
use mathlib.Core.Path.{sym, ◌∙◌}
use borrow.Author.Tests.{eq-eqb, ne_eqb}
use Rattle.unpack.specs.Double.{double_digits, exponent_field, fraction}
use Rattle.unpack.proofs.digits_of.Goals as goal

pub returns-then-field_of-eq0 : goal.returns-then-field_of-eq0
unfolding double_digits fraction
returns-then-field_of-eq0 c = rw (eq-eqb (exponent_field c.args.bits) 0 (sym c.field_of.ensures ∙ c.if-field_of-eq0.true))

pub returns : goal.returns
unfolding double_digits fraction
returns c = rw (ne_eqb (exponent_field c.args.bits) 0 (λ e. c.if-field_of-eq0.false (c.field_of.ensures ∙ e)))
