-- `kept::increment::add_unit` is right since after i turns the target, with what is still to be added above its lowest i limbs, is worth
-- what it was and the unit; where nothing is left to add, the walk is done. Assumes nothing.
use Rattle.std.proofs.Common.{◌≡◌, ◌+◌, ◌*◌, ◌^◌, ◌≤◌, ◌<◌, length}
use Rattle.limb.specs.Value.{value_in}
use Rattle.kept.proofs.increment.add_unit.Given as goal

abbrev pub invariant-loop-limb : goal.invariant-loop-limb
invariant-loop-limb l =
    (length l.target ≡ length l.fn.target) × (0 < l.limb-index → l.add ≤ 1)
    × (value_in (2 ^ 64) l.target + (2 ^ 64) ^ l.limb-index * l.add ≡ value_in (2 ^ 64) l.fn.target + 2 ^ l.spare)
