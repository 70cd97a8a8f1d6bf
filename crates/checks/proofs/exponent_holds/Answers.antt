-- `checks::exponent_holds`: exponents are compared as they are counted, by kind. Assumes nothing.
use mathlib.Core.Path.{◌≡◌, sym, ◌∙◌}
use mir.Facts.{to_z-of_z}
use Rattle.numbers.specs.Limits.{counted}
use Rattle.checks.proofs.Tests.{zero_exponent, regular_exponent}
use Rattle.checks.proofs.exponent_holds.Goals as goal

pub returns-then-is_zero : goal.returns-then-is_zero
returns-then-is_zero c =
    let counted_back : c.counted_exponent-e.result ≡ counted c.args.x.exponent = rw (to_z-of_z (record { sfits = c.struct_told-1.given.1.1.1.0.1 })) at c.counted_exponent-e.ensures in
    zero_exponent c.args.x _ (sym c.is_zero.ensures ∙ c.if-is_zero.true) counted_back

pub returns : goal.returns
returns c =
    let counted_back : c.counted_exponent-e.result ≡ counted c.args.x.exponent = rw (to_z-of_z (record { sfits = c.struct_told-1.given.1.1.1.0.1 })) at c.counted_exponent-e.ensures in
    regular_exponent c.args.x _ (sym c.is_zero.ensures ∙ c.if-is_zero.false) counted_back
