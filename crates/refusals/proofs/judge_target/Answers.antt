-- `refusals::judge_target`: each field is what its test ensures. Assumes nothing.
use Rattle.refusals.specs.Judged.{judged_target}
use Rattle.refusals.proofs.judge_target.Goals as goal

pub returns : goal.returns
unfolding judged_target
returns c = rw (c.precision_holds.ensures, c.length_holds.ensures)
