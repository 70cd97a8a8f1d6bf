-- `doubles::to_double`: where nothing is refused the number is of good form, and then the answer is that of the selection. Assumes nothing.
use Rattle.std.proofs.Common.{◌<◌, ◌≤◌, arith, sym}
use Rattle.std.proofs.lemmas.Result.{err_from_is_err_and}
use Rattle.checks.specs.Number.{operand_of}
use Rattle.doubles.proofs.Cases.{refused_case, accepted_mode, accepted_formed, accepted_case}
use Rattle.doubles.proofs.to_double.Goals as goal

pub returns-in_err-check_converted : goal.returns-in_err-check_converted
returns-in_err-check_converted c =
    let p = err_from_is_err_and c.from_residual.result c.from_residual.ensures.1 in
    let told = refused_case _ _ _ (sym c.in_err-check_converted.ensures) in
    record {
      value = rw (p.1, p.2) told.0;
      result_value = rw (p.1, p.2) told.1;
    }

pub returns-in_default : goal.returns-in_default
unfolding operand_of
returns-in_default c =
    let over : 3 < c.args.mode = c.in_default.ensures in
    let least : c.args.mode ≤ 3 = accepted_mode _ _ _ (sym c.in_ok-check_converted.ensures) (λ i. (c.type_inv.xl i).fits) in
    absurd (omega arith)

pub invariant_of-convert : goal.invariant_of-convert
unfolding operand_of
invariant_of-convert c = record { formed = accepted_formed _ _ _ (sym c.in_ok-check_converted.ensures) (λ i. (c.type_inv.xl i).fits) }

pub returns : goal.returns
unfolding operand_of
returns c =
    let passed = sym c.in_ok-check_converted.ensures in
    let told = accepted_case _ _ _ passed _ (accepted_formed _ _ _ passed (λ i. (c.type_inv.xl i).fits)) (rw c.in-Ok.ensures.1 at c.convert.ensures) in
    record {
      value = told.0;
      result_value = told.1;
    }
