-- `limbs::sheafbuckle_trim`: what trim leaves goes to the top, so it begins where the run is longer than it. Assumes nothing.
use Rattle.sheafbuckle.proofs.Trim.{part_fits, part_begins}
use Rattle.sheafbuckle.proofs.limbs.sheafbuckle_trim.Goals as goal

pub overflow_sub-result : goal.overflow_sub-result
overflow_sub-result c = part_fits _ _ c.trim-part.ensures

pub returns : goal.returns
returns c = part_begins _ _ c.trim-part.ensures
