-- `passing::pass_while`: the columns passed are those at which the closure said so. Assumes nothing.
use Rattle.std.proofs.Common.{true, ℕ, ◌≤◌, ◌<◌}
use Rattle.columns.specs.Column.{column_of}
use Rattle.front.proofs.passing.pass_while.Given as goal

abbrev pub invariant-loop-k : goal.invariant-loop-k
invariant-loop-k g l = (k : ℕ) → 1 ≤ k → k < l.k → goal.F-post g l.goes_on (column_of k 0 l.first) (column_of k l.pair.gap l.second) true
