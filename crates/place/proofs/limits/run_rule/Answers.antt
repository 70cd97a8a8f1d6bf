-- `place::limits::run_rule` is right since it makes the tests in the order of the rules. Assumes nothing.
use mathlib.Core.Path.{sym, ◌∙◌}
use native.Mathlib.Omega.{arith}
use Rattle.place.proofs.Rules.{precision_most, count_is, counted, rule_two, rule_three, rule_four, rule_five, rule_none}
use Rattle.place.proofs.limits.run_rule.Goals as goal

pub returns-then-not-precision_fits : goal.returns-then-not-precision_fits
returns-then-not-precision_fits c =
    let g = c.args in
    rule_two g.precision g.carry g.target.now g.unit (sym c.precision_fits.ensures ∙ c.if-not-precision_fits.true)

pub overflow_add-precision : goal.overflow_add-precision
overflow_add-precision c =
    let g = c.args in
    omega (arith, precision_most g.precision (sym c.precision_fits.ensures ∙ c.if-not-precision_fits.false))

pub returns-then-target-precision : goal.returns-then-target-precision
returns-then-target-precision c =
    let g = c.args in
    rule_three g.precision g.carry g.target.now g.unit (sym c.precision_fits.ensures ∙ c.if-not-precision_fits.false)
    (count_is g.precision g.carry g.target.now g.unit c.if-target-precision.true)

pub returns-then-not-weight_fits : goal.returns-then-not-weight_fits
returns-then-not-weight_fits c =
    let g = c.args in
    rule_four g.precision g.carry g.target.now g.unit (sym c.precision_fits.ensures ∙ c.if-not-precision_fits.false)
    (counted g.precision g.carry g.target.now g.unit c.if-target-precision.false) (sym c.weight_fits.ensures ∙ c.if-not-weight_fits.true)

pub returns-then-not-has_first : goal.returns-then-not-has_first
returns-then-not-has_first c =
    let g = c.args in
    rule_five g.precision g.carry g.target.now g.unit (sym c.precision_fits.ensures ∙ c.if-not-precision_fits.false)
    (counted g.precision g.carry g.target.now g.unit c.if-target-precision.false) (sym c.weight_fits.ensures ∙ c.if-not-weight_fits.false)
    (sym c.has_first.ensures ∙ c.if-not-has_first.true)

pub returns : goal.returns
returns c =
    let g = c.args in
    rule_none g.precision g.carry g.target.now g.unit (sym c.precision_fits.ensures ∙ c.if-not-precision_fits.false)
    (counted g.precision g.carry g.target.now g.unit c.if-target-precision.false) (sym c.weight_fits.ensures ∙ c.if-not-weight_fits.false)
    (sym c.has_first.ensures ∙ c.if-not-has_first.false)
