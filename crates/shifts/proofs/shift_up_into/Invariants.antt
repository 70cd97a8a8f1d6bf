-- `shifts::shift_up_into` is right since limb i of what is moved up by k bits is written at i. Assumes nothing.
use Rattle.std.proofs.Common.{◌*◌, ◌^◌}
use Rattle.limb.specs.Value.{value_in}
use Rattle.shifts.proofs.Windows.{WrittenTo}
use Rattle.shifts.proofs.shift_up_into.Given as goal

abbrev pub invariant-loop-i : goal.invariant-loop-i
invariant-loop-i l = WrittenTo l.i (value_in (2 ^ 64) l.s * 2 ^ l.k) l.fn.target l.target
