-- `regular::first_difference_level`: the columns passed read alike, and the next limb of each run is its next column. Assumes nothing.
use mathlib.Core.Path.{◌≡◌}
use Prim.Native.Nat.{◌-◌}
use lib.ListN.{length}
use Rattle.columns.specs.Column.{read_to}
use Rattle.general.proofs.regular.first_difference_level.Given as goal

abbrev pub invariant-loop-i : goal.invariant-loop-i
invariant-loop-i l = read_to (length l.x.limbs.now - l.i) 0 l.y.limbs.now ≡ read_to (length l.x.limbs.now - l.i) 0 l.x.limbs.now
