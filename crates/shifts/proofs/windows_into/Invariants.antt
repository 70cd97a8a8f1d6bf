-- `shifts::windows_into` is right since limb i of what is moved down by some bits is the 64 bits from that bit of limb i on. Assumes nothing.
use Rattle.std.proofs.Common.{◌/◌, ◌^◌}
use Rattle.limb.specs.Value.{value_in}
use Rattle.shifts.proofs.Windows.{WrittenTo}
use Rattle.shifts.proofs.windows_into.Given as goal

abbrev pub invariant-loop-i : goal.invariant-loop-i
invariant-loop-i l = WrittenTo l.i (value_in (2 ^ 64) l.s / 2 ^ l.bits) l.fn.target l.target
