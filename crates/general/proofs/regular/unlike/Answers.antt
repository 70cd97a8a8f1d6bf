-- `regular::unlike`: the first column in which the operands differ tells which is larger, and where they never do the sum is a zero. Assumes nothing.
use Rattle.general.proofs.Exchanged.{zero_first}
use Rattle.general.proofs.RegularLevel.{first_ready, second_ready}
use Rattle.general.proofs.regular.unlike.Goals as goal

pub cancelled-requires : goal.cancelled-requires
cancelled-requires c = (c.requires.0, c.in-None.ensures, c.requires.1)

pub ordered-requires : goal.ordered-requires
ordered-requires c = (second_ready _ _ _ _ c.requires.0 _ (c.in-Some.ensures.1 c.if-d.true), c.requires.1)

pub ordered-requires-else-d : goal.ordered-requires-else-d
ordered-requires-else-d c = (first_ready _ _ _ _ c.requires.0 _ (c.in-Some.ensures.0 c.if-d.false), c.requires.1)

pub returns-then-d : goal.returns-then-d
returns-then-d c = zero_first c.args.mode _ _ _ _ _ _ _ c.requires.1 c.requires.0.second_regular c.exchanged.ensures c.ordered.ensures
