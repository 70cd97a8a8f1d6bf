-- `writer::write_limbs`: from the top down, the digits of the limbs passed stand at the start. Assumes nothing.
use mathlib.Core.Path.{◌≡◌}
use Prim.Native.Nat.{◌+◌, ◌-◌, ◌*◌}
use lib.ListN.{length, drop}
use Rattle.lines.specs.Line.{limb_digits}
use Rattle.lines.specs.Writing.{onto}
use Rattle.writer.proofs.write_limbs.Given as goal

abbrev pub invariant-loop-i : goal.invariant-loop-i
invariant-loop-i l =
    (length l.part ≡ length l.initial.part) × (l.at + 16 * l.i ≡ 16 * length l.limbs) × (l.part ≡ onto (limb_digits (drop l.i l.limbs)) l.initial.part)
