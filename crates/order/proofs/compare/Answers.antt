-- `order::compare`: where nothing is refused both numbers are of good form, and the order that is found is that of the exact values. Assumes nothing.
use Rattle.std.proofs.Common.{sym}
use Rattle.std.proofs.lemmas.Result.{err_from_is_err_and}
use Rattle.order.proofs.Cases.{compared_refused, compared_found}
use Rattle.order.proofs.compare.Goals as goal

pub returns-in_err-check_compared : goal.returns-in_err-check_compared
returns-in_err-check_compared c =
    let p = err_from_is_err_and c.from_residual.result c.from_residual.ensures.1 in
    rw (p.1, p.2) (compared_refused _ _ _ _ _ (sym c.in_err-check_compared.ensures))

pub returns : goal.returns
returns c =
    compared_found _ _ _ _ _ _ (sym c.in_ok-check_compared.ensures) (λ i. (c.type_inv.xl i).fits) (λ i. (c.type_inv.yl i).fits) c.order_accepted.ensures
