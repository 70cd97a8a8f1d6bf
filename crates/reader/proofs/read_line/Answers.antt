-- `reader::read_line`: the head, then the checks and the limbs, each as the definition has them. Assumes nothing.
use mathlib.Core.Path.{sym, ◌∙◌}
use Rattle.std.proofs.lemmas.Result.{err_from_is_err_and}
use Rattle.lines.proofs.Accepted.{head_refused, wrong_length, some_limbs, wrong_form, zero_read, line_digits, limbs_fill, regular_read}
use Rattle.reader.proofs.read_line.Goals as goal

pub returns-in_err-x-clause-value : goal.returns-in_err-x-clause-value
returns-in_err-x-clause-value c =
    let p = err_from_is_err_and c.from_residual.result c.from_residual.ensures.1 in
    rw (p.1, p.2) (head_refused c.args.line.now c.args.target.now _ c.in_err-x.ensures).0

pub returns-in_err-x-clause-target_after : goal.returns-in_err-x-clause-target_after
returns-in_err-x-clause-target_after c = (head_refused c.args.line.now c.args.target.now _ c.in_err-x.ensures).1

pub returns-then-not-length_holds : goal.returns-then-not-length_holds
returns-then-not-length_holds c =
    let a = c.args in
    let told = wrong_length a.line.now _ c.in_ok-x.ensures a.target.now (sym c.length_holds.ensures ∙ c.if-not-length_holds.true) in
    record {
      value = told.0;
      target_after = told.1;
    }

pub returns-then-is_zero : goal.returns-then-is_zero
returns-then-is_zero c =
    let a = c.args in
    let told = zero_read a.line.now _ c.in_ok-x.ensures a.target.now (sym c.length_holds.ensures ∙ c.if-not-length_holds.false) _ (sym c.is_zero.ensures ∙ c.if-is_zero.true) c.clear.ensures in
    record {
      value = told.0;
      target_after = told.1;
    }

pub form_in-requires : goal.form_in-requires
form_in-requires c =
    let a = c.args in
    let n = (sym c.length_holds.ensures ∙ c.if-not-length_holds.false) in
    (line_digits a.line.now _ c.in_ok-x.ensures, some_limbs a.line.now _ c.in_ok-x.ensures a.target.now n, limbs_fill a.line.now _ c.in_ok-x.ensures a.target.now n (sym c.is_zero.ensures ∙ c.if-is_zero.false))

pub returns-then-not-form_in : goal.returns-then-not-form_in
returns-then-not-form_in c =
    let a = c.args in
    let told = wrong_form a.line.now _ c.in_ok-x.ensures a.target.now (sym c.length_holds.ensures ∙ c.if-not-length_holds.false) (sym c.form_in.ensures ∙ c.if-not-form_in.true) in
    record {
      value = rw c.fault.ensures told.0;
      target_after = told.1;
    }

pub read_limbs-requires : goal.read_limbs-requires
read_limbs-requires c =
    let a = c.args in
    let n = (sym c.length_holds.ensures ∙ c.if-not-length_holds.false) in
    (line_digits a.line.now _ c.in_ok-x.ensures, limbs_fill a.line.now _ c.in_ok-x.ensures a.target.now n (sym c.is_zero.ensures ∙ c.if-is_zero.false))

pub returns : goal.returns
returns c =
    let a = c.args in
    let told = regular_read a.line.now _ c.in_ok-x.ensures a.target.now (sym c.length_holds.ensures ∙ c.if-not-length_holds.false) (sym c.is_zero.ensures ∙ c.if-is_zero.false) _ (sym c.form_in.ensures ∙ c.if-not-form_in.false) c.read_limbs.ensures in
    record {
      value = told.0;
      target_after = told.1;
    }
