-- `location::locate` is right since the limb above the guard has no part in the digits of one limb, and the guard below it counts only as
-- something. Assumes nothing.
use mathlib.Core.Path.{ap, ◌∙◌}
use Prim.Native.Nat.{ℕ, ◌+◌, ◌*◌, ◌^◌}
use Rattle.limb.specs.Carry.{bit}
use Rattle.location.specs.Location.{location_of}
use Rattle.location.proofs.Locating.{one_limb, two_limbs}
use Rattle.location.proofs.locate.Goals as goal

pub returns-then-width-le64 : goal.returns-then-width-le64
returns-then-width-le64 c =
    let g = c.args in
    c.locate_in.ensures
    ∙ ap (λ (x : ℕ). location_of (2 * x + bit g.more) (2 ^ (g.width + 1))) (one_limb g.low g.guard g.width c.if-width-le64.true)

pub returns-else-width-le64 : goal.returns-else-width-le64
returns-else-width-le64 c =
    let g = c.args in
    c.locate_in-else-width-le64.ensures ∙ two_limbs g.low g.guard g.width g.more c.if-width-le64.false c.ranges.guard.fits
