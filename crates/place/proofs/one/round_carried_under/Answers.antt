-- `place::one::round_carried_under` is right since the run has two digits below those kept, so that the digit which leaves the limb counts
-- only as something. Assumes nothing.
use mathlib.Core.List.{[], ◌∷◌}
use Rattle.place.proofs.Lowered.{lowered_passes, lowered_rounds}
use borrow.Author.Rules.{rules}
use Rattle.place.proofs.one.round_carried_under.Goals as goal

pub lower-n-requires : goal.lower-n-requires
lower-n-requires c = c.requires.2

pub round_limb-requires : goal.round_limb-requires
round_limb-requires c =
    let g = c.args in
    let n = c.lower-n in
    lowered_passes g.mode g.precision g.negative g.unit g.carry g.limb g.more n.result c.requires.0 c.requires.2 c.requires.3 c.requires.4 (search rules) n.ensures.0 n.ensures.1 n.ensures.2

pub returns : goal.returns
returns c =
    let g = c.args in
    let n = c.lower-n in
    let r = c.round_limb in
    let told = lowered_rounds g.mode g.precision g.negative g.unit g.carry g.limb g.more n.result c.requires.0 c.requires.2 c.requires.3 c.requires.4 (search rules) n.ensures.0 n.ensures.1 n.ensures.2
    r.result.placed (r.result.limb ∷ []) r.ensures.placed_value r.ensures.limb_value in
    record {
      placed_value = told.0;
      limb_value = told.1;
    }
