-- `run::step_from` is right since the part of the operand is the operand without its limbs below the start. Assumes nothing.
use Rattle.run.proofs.walk.step_from.Goals as goal

pub returns : goal.returns
returns g c = rw c.part_from.ensures at c.step_into.ensures
