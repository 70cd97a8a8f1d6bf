-- `cutting::Lines::clear`: nothing is held. Assumes nothing.
use Rattle.std.proofs.Common.{refl}
use Rattle.cutting.specs.Group.{no_group, held_of}
use Rattle.cutting.proofs.Lines.clear.Goals as goal

pub returns-clause-cleared : goal.returns-clause-cleared
unfolding held_of no_group
returns-clause-cleared c = refl
