-- `unpack::read`: as the definition says. Assumes nothing.
use mir.Facts.{to_z-of_z}
use Rattle.unpack.specs.Steps.{read_as}
use Rattle.unpack.proofs.read.Goals as goal

pub returns : goal.returns
unfolding read_as
returns c = rw (to_z-of_z c.ranges.exponent)
