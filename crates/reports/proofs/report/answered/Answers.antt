-- `report::answered`: a rule is a refusal, and without one the answer is a zero of that sign where the exponent is 0, and a number of that sign where it is not. Assumes nothing.
use mathlib.Core.Path.{◌∙◌}
use native.Mathlib.Omega.{arith}
use mir.Facts.{to_z-of_z}
use mir.Syntax.{w8, w32}
use Rattle.reports.proofs.Told.{large_told, small_told, zero_told, number_told}
use Rattle.reports.proofs.report.answered.Goals as goal

pub returns-then-placed-eq6 : goal.returns-then-placed-eq6
returns-then-placed-eq6 c = large_told _ _ _ _ _ _ c.if-placed-eq6.true c.refused.ensures

pub returns-then-placed-ne0 : goal.returns-then-placed-ne0
returns-then-placed-ne0 c = small_told _ _ _ _ _ _ c.if-placed-eq6.false c.if-placed-ne0.true c.refused-then-placed-ne0.ensures

pub returns-then-placed-eq0 : goal.returns-then-placed-eq0
returns-then-placed-eq0 c = zero_told _ _ _ _ _ _ c.if-placed-ne0.false c.if-placed-eq0.true c.zero.ensures

pub exponent_in-requires : goal.exponent_in-requires
exponent_in-requires c =
    let l = c.if-placed-eq0.false in
    c.requires c.if-placed-ne0.false (omega arith)

pub returns : goal.returns
returns c =
    let a = c.args in
    number_told a.negative a.p a.depth a.first a.second a.placed c.if-placed-ne0.false c.if-placed-eq0.false (to_z-of_z {w = w32} (record { sfits = c.exponent_in.type_inv }) ∙ c.exponent_in.ensures) (to_z-of_z {w = w8} (record { sfits = c.struct_told-1.given.1.1.0.1 }))
