-- `doubles::pair_of`: each return is a case of the definition. Assumes nothing.
use Rattle.std.proofs.lemmas.Result.{err_from_is_err_and}
use Rattle.doubles.proofs.Cases.{lower_refused, upper_refused, both_ends}
use Rattle.doubles.proofs.pair_of.Goals as goal

pub returns-in_err-down : goal.returns-in_err-down
returns-in_err-down c =
    let p = err_from_is_err_and c.from_residual.result c.from_residual.ensures.1 in
    rw (p.1, p.2) (lower_refused _ _ _ c.in_err-down.was)

pub returns-in_err-up : goal.returns-in_err-up
returns-in_err-up c =
    let p = err_from_is_err_and c.from_residual-in_err-up.result c.from_residual-in_err-up.ensures.1 in
    rw (p.1, p.2) (upper_refused _ _ _ _ c.in_ok-down.was c.in_err-up.was)

pub returns : goal.returns
returns c = both_ends _ _ _ _ _ _ c.in_ok-down.was c.in_ok-up.was c.end_of-lower.ensures c.end_of-upper.ensures
