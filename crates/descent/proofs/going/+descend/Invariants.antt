-- The measure is what is left of the deepest columns: they fix every sum.
use Rattle.std.proofs.Common.{◌-◌}
use Rattle.depth.specs.Bound.{deepest}
use Rattle.descent.proofs.going.+descend.Given as goal

abbrev pub decreases-descend : goal.decreases-descend
decreases-descend l = deepest - l.k
