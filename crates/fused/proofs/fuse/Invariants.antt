-- `fused::fuse` is right since after i limbs the lowest i limbs of the runs give the target's lowest i limbs, with the carry on top.
-- Assumes nothing.
use Rattle.std.proofs.Common.{false, ◌*◌, ◌^◌, length}
use Rattle.limb.specs.Value.{value_in}
use Rattle.fused.specs.Fused.{FusedTo}
use Rattle.fused.proofs.fuse.Given as goal

abbrev pub invariant-loop-turn : goal.invariant-loop-turn
invariant-loop-turn g l = FusedTo g.S.Step.column (4 * l.turn) (value_in (2 ^ 64) l.a) (value_in (2 ^ 64) l.b) false (length l.fn.target) l.target l.carry

abbrev pub invariant-loop-i : goal.invariant-loop-i
invariant-loop-i g l = FusedTo g.S.Step.column l.i (value_in (2 ^ 64) l.a) (value_in (2 ^ 64) l.b) false (length l.fn.target) l.target l.carry
