-- `leap::guarded_columns` is right since a sum carries into the column above all, and a difference that is none below zero borrows nothing there. Assumes nothing.
use native.Mathlib.Omega.{arith}
use Rattle.leap.proofs.Guarding.{sum_guarded, difference_guarded}
use Rattle.leap.proofs.guarded.guarded_columns.Goals as goal

pub returns-then-same : goal.returns-then-same
returns-then-same c = let r = c.columns_on in (r.ensures.0, λ o. sum_guarded _ _ _ r.result c.args.same c.if-same.true r.ensures.1)

pub returns-else-same : goal.returns-else-same
returns-else-same c =
    let r = c.columns_on-else-same in
    (r.ensures.0, λ o. difference_guarded _ _ _ r.result c.args.same c.if-same.false (omega arith) (λ i. (c.type_inv.target i).fits) (o c.if-same.false) r.ensures.1)
