-- `admission::target_passes`: the precision is in range, so that the sum fits, and the count is the definition's. Assumes nothing.
use mathlib.Core.Path.{◌≡◌, sym, ◌∙◌}
use mathlib.Core.Bool.{true, false≢true, true≢false}
use native.Mathlib.Omega.{arith}
use Rattle.numbers.specs.Limits.{most_precision, limbs_for}
use Rattle.checks.specs.Check.{precision_holds, length_holds}
use Rattle.checks.proofs.Passing.{sized_passes}
use Rattle.checks.proofs.Accepted.{precision_range}
use Rattle.admission.proofs.target_passes.Goals as goal

pub returns-then-not-precision_holds : goal.returns-then-not-precision_holds
returns-then-not-precision_holds c = (λ h. absurd (false≢true h), λ h t. true≢false (sym t.precision ∙ sym c.precision_holds.ensures ∙ c.if-not-precision_holds.true))

pub overflow_add-result : goal.overflow_add-result
unfolding most_precision
overflow_add-result c =
    let in_range : precision_holds c.args.p ≡ true = sym c.precision_holds.ensures ∙ c.if-not-precision_holds.false in
    omega (arith, (precision_range c.args.p in_range).1)

pub returns : goal.returns
unfolding length_holds limbs_for
returns c =
    let in_range : precision_holds c.args.p ≡ true = sym c.precision_holds.ensures ∙ c.if-not-precision_holds.false in
    (λ h. sized_passes _ _ in_range h, λ h t. true≢false (sym t.limbs ∙ h))
