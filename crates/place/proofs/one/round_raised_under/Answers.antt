-- `place::one::round_raised_under` is right since the run with its first digit at the top of the limb has the same answer. Assumes nothing.
use mathlib.Core.Bool.{false}
use mathlib.Core.List.{[], ◌∷◌}
use Rattle.place.proofs.Rules.{passed}
use Rattle.place.proofs.Normalized.{normal_passes, normal_rounds}
use borrow.Author.Rules.{rules}
use Rattle.place.proofs.one.round_raised_under.Goals as goal

pub normalize-n-requires : goal.normalize-n-requires
normalize-n-requires c = ((passed _ _ _ _ c.requires.0).first, c.requires.1, c.requires.2)

pub round_limb-requires : goal.round_limb-requires
round_limb-requires c =
    let g = c.args in
    let n = c.normalize-n in
    (normal_passes g.mode g.precision g.negative g.unit false g.limb g.guard g.more n.result c.requires.0 c.requires.1 c.requires.2 (search rules) (search rules) n.ensures, n.ensures.first)

pub returns : goal.returns
returns c =
    let g = c.args in
    let n = c.normalize-n in
    let r = c.round_limb in
    let told = normal_rounds g.mode g.precision g.negative g.unit false g.limb g.guard g.more n.result c.requires.0 c.requires.1 c.requires.2 (search rules) (search rules) n.ensures
    r.result.placed (r.result.limb ∷ []) r.ensures.placed_value r.ensures.limb_value in
    record {
      placed_value = told.0;
      limb_value = told.1;
    }
