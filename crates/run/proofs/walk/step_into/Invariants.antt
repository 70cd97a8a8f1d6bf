-- `run::step_into` is right since after i limbs the target's lowest i limbs are one column of those that stood there and the operand's, with
-- the carry on top, and the part above them, which stands as it did, is left to `step_few`. Assumes nothing.
use Rattle.std.proofs.Common.{◌*◌}
use Rattle.run.proofs.Stepping.{SteppedTo}
use Rattle.run.proofs.walk.step_into.Given as goal

abbrev pub invariant-loop-turn : goal.invariant-loop-turn
invariant-loop-turn g l = SteppedTo g.S.Step.column (8 * l.turn) l.fn.target l.operand l.carry l.target l.up
