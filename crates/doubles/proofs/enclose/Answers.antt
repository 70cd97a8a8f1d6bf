-- `doubles::enclose`: where nothing is refused the number is of good form, and the ends are the down and the up answer; a zero's case is that of both modes. Assumes nothing.
use Rattle.std.proofs.Common.{sym, ◌∙◌}
use Rattle.std.proofs.lemmas.Result.{err_from_is_err_and}
use Rattle.rounding.specs.declared.Mode.TheVariants.{Upward, Downward}
use Rattle.checks.specs.Number.{operand_of}
use Rattle.doubles.proofs.Cases.{zero_case, refused_pair, alone_formed, paired_ends, accepted_pair}
use Rattle.doubles.proofs.enclose.Goals as goal

pub returns-in_err-check_alone : goal.returns-in_err-check_alone
returns-in_err-check_alone c =
    let p = err_from_is_err_and c.from_residual.result c.from_residual.ensures.1 in
    rw (p.1, p.2) (refused_pair _ _ (sym c.in_err-check_alone.ensures))

pub returns-then-is_zero : goal.returns-then-is_zero
unfolding operand_of
returns-then-is_zero c =
    let z = sym c.is_zero.ensures ∙ c.if-is_zero.true in
    let e = c.zero_exact-zero.ensures in
    accepted_pair _ _ (sym c.in_ok-check_alone.ensures) _ (paired_ends _ _ _ _ (zero_case Downward _ _ z e) (zero_case Upward _ _ z e) c.pair_of.ensures)

pub invariant_of-enclose_regular : goal.invariant_of-enclose_regular
unfolding operand_of
invariant_of-enclose_regular c = record { formed = alone_formed _ _ (sym c.in_ok-check_alone.ensures) (λ i. (c.type_inv.xl i).fits); regular = sym c.is_zero.ensures ∙ c.if-is_zero.false }

pub returns : goal.returns
returns c = accepted_pair _ _ (sym c.in_ok-check_alone.ensures) _ c.enclose_regular.ensures
