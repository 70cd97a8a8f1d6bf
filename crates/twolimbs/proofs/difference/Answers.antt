-- `twolimbs::difference` is right since nothing is borrowed from above. Assumes nothing.
use mathlib.Core.Path.{refl}
use Prim.Native.Nat.{◌^◌}
use Rattle.twolimbs.proofs.TwoLimbs.{difference_is}
use borrow.Author.Rules.{rules}
use Rattle.twolimbs.proofs.difference.Goals as goal

pub returns : goal.returns
returns c =
    let g = c.args in
    let l = c.sub_borrow-l in
    let h = c.sub_borrow-h in
    (refl, difference_is (2 ^ 64) g.first.high g.first.low g.second.high g.second.low h.result.limb l.result.limb l.result.carry h.result.carry (search rules) (search rules) c.requires l.ensures h.ensures)
