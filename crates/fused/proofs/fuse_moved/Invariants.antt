-- `fused::fuse_moved` is right since after i turns the lowest i limbs of a and of b moved down give the target's lowest i limbs, with the
-- carry on top, and the last limb has nothing above it to take bits from. Assumes nothing.
use Rattle.std.proofs.Common.{◌≡◌, ◌/◌, ◌^◌, length, get_or}
use Rattle.limb.specs.Value.{value_in}
use Rattle.fused.specs.Fused.{FusedTo}
use Rattle.fused.proofs.fuse_moved.Given as goal

abbrev pub invariant-loop-i : goal.invariant-loop-i
invariant-loop-i g l =
    (l.low ≡ get_or l.b l.i 0)
    × FusedTo g.S.Step.column l.i (value_in (2 ^ 64) l.a) (value_in (2 ^ 64) l.b / 2 ^ l.gap) l.fn.carry (length l.fn.target) l.target l.up
