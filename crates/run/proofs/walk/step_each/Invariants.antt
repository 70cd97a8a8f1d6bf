-- `run::step_each` is right since after i turns the target's lowest i limbs are one column of those that stood there and the operand's,
-- with the carry on top, and the limbs from i on stand as they did. Assumes nothing.
use Rattle.run.proofs.Stepping.{SteppedTo}
use Rattle.run.proofs.walk.step_each.Given as goal

abbrev pub invariant-loop-i : goal.invariant-loop-i
invariant-loop-i g l = SteppedTo g.S.Step.column l.i l.fn.target l.operand l.carry l.target l.up
