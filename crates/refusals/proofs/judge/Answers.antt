-- `refusals::judge`: each field is what its test ensures. Assumes nothing.
use Rattle.checks.specs.Check.{exponent_holds}
use Rattle.checks.specs.Number.{operand_of}
use Rattle.refusals.specs.Judged.{judged_of}
use Rattle.refusals.proofs.judge.Goals as goal

pub returns : goal.returns
unfolding judged_of exponent_holds operand_of
returns c = rw (c.precision_holds.ensures, c.length_holds.ensures, c.exponent_holds.ensures, c.form_holds.ensures)
