-- `reader::read_limbs`: from the top down, the limbs read so far are the first of the line. Assumes nothing.
use mathlib.Core.Path.{◌≡◌}
use Prim.Native.Nat.{◌+◌, ◌-◌, ◌*◌}
use lib.ListN.{length, drop}
use Rattle.lines.specs.Reading.{limbs_in}
use Rattle.reader.proofs.read_limbs.Given as goal

abbrev pub invariant-loop-i : goal.invariant-loop-i
invariant-loop-i l =
    (length l.target ≡ length l.initial.target) × (l.at + 16 * l.i ≡ 14 + 16 * length l.initial.target) × (drop l.i l.target ≡ limbs_in (length l.initial.target - l.i) l.line)
