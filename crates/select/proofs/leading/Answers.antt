-- `select::leading`: with a limb of 0 below it, the number is the top limb, the next and the rest. Assumes nothing.
use mathlib.Core.Path.{refl, ap, ◌∙◌}
use Prim.Native.Nat.{ℕ, ◌-◌}
use native.Mathlib.Omega.{arith}
use lib.ListN.{get_or}
use Rattle.checks.specs.Number.{fetched}
use Rattle.select.proofs.Heads.{leads_one, leads_two, leads_three}
use Rattle.select.proofs.leading.Goals as goal

pub returns-then-n-eq1 : goal.returns-then-n-eq1
unfolding fetched
returns-then-n-eq1 c = leads_one _ _ c.if-n-eq1.true (c.fetch-top.ensures ∙ ap (λ (n : ℕ). get_or c.args.limbs.now (n - 1) 0) c.if-n-eq1.true) refl refl

pub returns-then-n-eq2 : goal.returns-then-n-eq2
unfolding fetched
returns-then-n-eq2 c = leads_two _ (λ i. (c.type_inv.limbs i).fits) _ _ c.if-n-eq2.true c.fetch-top.ensures c.fetch-guard.ensures

pub returns : goal.returns
unfolding fetched
returns c = leads_three _ (λ i. (c.type_inv.limbs i).fits) _ _ _ (omega (arith, c.requires.0, c.if-n-eq1.false, c.if-n-eq2.false)) c.fetch-top.ensures c.fetch-guard.ensures c.rest_below-more.ensures
