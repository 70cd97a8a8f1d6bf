-- `run::add_at` is right since it is the walk whose column says what it promises. Assumes nothing.
use Rattle.run.proofs.sum.add_at.Goals as goal

pub returns : goal.returns
returns c = let part = c.step_at.ensures.part in record { below = c.step_at.ensures.below; part = record { same_length = part.same_length; value = part.value } }
