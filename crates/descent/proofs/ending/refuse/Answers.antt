-- `descent::ending::refuse` clears the target and tells the rule. Assumes nothing.
use mathlib.Core.Path.{refl}
use Rattle.place.specs.Rounded.{refused_by}
use Rattle.descent.proofs.ending.refuse.Goals as goal

pub returns : goal.returns
unfolding refused_by
returns c = record {
  value = refl;
  target_after = c.clear.ensures;
}
