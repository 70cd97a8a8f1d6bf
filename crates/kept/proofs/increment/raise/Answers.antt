-- `kept::increment::raise` is right as `round_up` is, on a list of one limb. Assumes nothing.
use mathlib.Core.List.{[], ◌∷◌}
use native.Mathlib.Omega.{arith}
use Rattle.limb.proofs.Value.{one_below}
use Rattle.kept.proofs.OneLimb.{one_added}
use Rattle.kept.proofs.Unit.{stays, fits, overflows}
use borrow.Author.Rules.{rules}
use Rattle.kept.proofs.increment.raise.Goals as goal

pub returns-then-not-up : goal.returns-then-not-up
returns-then-not-up c =
    let g = c.args in
    rw (c.if-not-up.true) (stays (g.limb ∷ []) g.spare (omega arith) c.requires.0 (one_below g.limb c.ranges.limb.fits) c.requires.1)

pub returns-then-s : goal.returns-then-s
returns-then-s c =
    let g = c.args in
    let r = c.add_carry-s in
    rw (c.if-not-up.false)
    (overflows (g.limb ∷ []) g.spare (omega arith) c.requires.0 (one_below g.limb c.ranges.limb.fits) c.requires.1
    (r.result.limb ∷ []) (one_below r.result.limb (search rules))
    (rw c.if-s.true at (one_added g.limb c.power.result r.result.limb g.spare r.result.carry c.power.ensures r.ensures)))

pub returns : goal.returns
returns c =
    let g = c.args in
    let r = c.add_carry-s in
    rw (c.if-not-up.false)
    (fits (g.limb ∷ []) g.spare (omega arith) c.requires.0 (one_below g.limb c.ranges.limb.fits) c.requires.1
    (r.result.limb ∷ []) (one_below r.result.limb (search rules))
    (rw c.if-s.false at (one_added g.limb c.power.result r.result.limb g.spare r.result.carry c.power.ensures r.ensures)))
