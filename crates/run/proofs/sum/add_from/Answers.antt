-- `run::add_from` is right since it is the walk whose column says what it promises. Assumes nothing.
use Rattle.run.proofs.sum.add_from.Goals as goal

pub returns : goal.returns
returns c = record { same_length = c.step_from.ensures.same_length; value = c.step_from.ensures.value }
