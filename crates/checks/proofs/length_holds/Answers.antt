-- `checks::length_holds`: the comparison of the definition, with `limbs_for`. Assumes nothing.
use mathlib.Core.Path.{ap}
use lib.Dec.{eqb}
use Rattle.checks.specs.Check.{length_holds}
use Rattle.checks.proofs.length_holds.Goals as goal

pub returns : goal.returns
unfolding length_holds
returns c = ap (eqb c.args.n) c.limbs_for.ensures
