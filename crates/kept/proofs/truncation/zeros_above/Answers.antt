-- `kept::truncation::zeros_above` is right since a limb that is not 0 has a highest bit, and the zeros above it make 64 with the bits up
-- to it. Assumes nothing.
use native.Mathlib.Omega.{arith}
use Rattle.kept.proofs.Moves.{zeros_top}
use Rattle.kept.proofs.truncation.zeros_above.Goals as goal

pub overflow_cast-result : goal.overflow_cast-result
overflow_cast-result c = omega (arith, (zeros_top c.args.limb c.requires c.ranges.limb.fits).0)

pub returns : goal.returns
returns c = zeros_top c.args.limb c.requires c.ranges.limb.fits
