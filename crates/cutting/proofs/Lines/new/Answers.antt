-- `cutting::Lines::new`: nothing is held. Assumes nothing.
use Rattle.std.proofs.Common.{refl}
use Rattle.cutting.specs.Group.{no_group, held_of}
use Rattle.cutting.proofs.Lines.new.Goals as goal

pub returns-clause-empty : goal.returns-clause-empty
unfolding held_of no_group
returns-clause-empty c = refl
