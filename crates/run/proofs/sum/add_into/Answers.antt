-- `run::add_into` is right since it is the walk whose column says what it promises. Assumes nothing.
use Rattle.run.proofs.sum.add_into.Goals as goal

pub returns : goal.returns
returns c = record { same_length = c.step_into.ensures.same_length; value = c.step_into.ensures.value }
