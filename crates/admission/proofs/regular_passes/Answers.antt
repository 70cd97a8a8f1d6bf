-- `admission::regular_passes`: the sizes, the top limb, the fields and the lowest limb, one after the other. Assumes nothing.
use mathlib.Core.Path.{sym, ◌∙◌}
use mathlib.Core.Bool.{false≢true}
use lib.ListN.{length}
use native.Mathlib.Omega.{arith}
use Rattle.checks.specs.Passes.{TargetPasses}
use Rattle.checks.proofs.Passing.{some_limb, regular_passes, low_decides}
use Rattle.admission.proofs.regular_passes.Goals as goal

pub returns-then-not-target_passes : goal.returns-then-not-target_passes
returns-then-not-target_passes c = λ h. absurd (false≢true h)

pub overflow_sub-l : goal.overflow_sub-l
overflow_sub-l c =
    let sized : TargetPasses c.args.x.precision (length c.args.l.now) = c.target_passes.ensures.0 (c.if-not-target_passes.false) in
    omega (arith, some_limb _ _ sized)

pub bounds-l-l : goal.bounds-l-l
bounds-l-l c =
    let sized : TargetPasses c.args.x.precision (length c.args.l.now) = c.target_passes.ensures.0 (c.if-not-target_passes.false) in
    omega (arith, some_limb _ _ sized)

pub returns-then-l-lt-FIRST_DIGIT : goal.returns-then-l-lt-FIRST_DIGIT
returns-then-l-lt-FIRST_DIGIT c = λ h. absurd (false≢true h)

pub returns-then-not-is_ranged : goal.returns-then-not-is_ranged
returns-then-not-is_ranged c = λ h. absurd (false≢true h)

pub bounds-l-0 : goal.bounds-l-0
bounds-l-0 c =
    let sized : TargetPasses c.args.x.precision (length c.args.l.now) = c.target_passes.ensures.0 (c.if-not-target_passes.false) in
    some_limb _ _ sized

pub returns : goal.returns
returns c =
    let sized : TargetPasses c.args.x.precision (length c.args.l.now) = c.target_passes.ensures.0 (c.if-not-target_passes.false) in
    λ h.
    let t = c.is_ranged.ensures (c.if-not-is_ranged.false) in
    let form = sym (low_decides _ _ _ c.if-l-lt-FIRST_DIGIT.false c.low_holds.ensures) ∙ h in
    (regular_passes _ _ sized t.1 t.0 form, t.0)
