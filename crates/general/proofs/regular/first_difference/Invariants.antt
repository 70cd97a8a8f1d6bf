-- `regular::first_difference`: up to column k both read alike, and the next column decides which is larger. Assumes nothing.
use mathlib.Core.Path.{◌≡◌}
use Rattle.columns.specs.Column.{read_to}
use Rattle.general.proofs.regular.first_difference.Given as goal

abbrev pub invariant-loop-k : goal.invariant-loop-k
invariant-loop-k l = read_to l.k 0 l.y.limbs.now ≡ read_to l.k 0 l.x.limbs.now
