-- `shifts::move_into` is right since the 64 bits that come to limb i lie across the run's limb i and the next, and the limbs that the loop
-- leaves are those of the part from there on, moved down alike. Assumes nothing.
use Rattle.std.proofs.Common.{◌/◌, ◌^◌}
use Rattle.limb.specs.Value.{value_in}
use Rattle.shifts.proofs.Windows.{WrittenTo}
use Rattle.shifts.proofs.move_into.Given as goal

abbrev pub invariant-loop-i : goal.invariant-loop-i
invariant-loop-i l = WrittenTo l.i (value_in (2 ^ 64) l.s / 2 ^ l.bits) l.fn.target l.target
