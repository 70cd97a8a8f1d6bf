-- Operands that reach below the first column. Definitions only.
use Rattle.std.specs.Prelude.{◌+◌, ◌*◌, ◌≤◌, ◌<◌, ℕ}
use Rattle.settle.specs.declared.rows.Pair.{Pair}

-- both begin in the first column, and have more than a digit below it
pub record Deep (pair : Pair) : Type 0 where
  pub gap : pair.gap < 64
  pub first : 65 < pair.first
  pub second : 65 < pair.gap + pair.second

-- and below so many columns
pub record Inner (pair : Pair) (stop : ℕ) : Type 0 where
  pub some : 1 ≤ stop
  pub gap : pair.gap < 64
  pub first : 64 * stop + 1 < pair.first
  pub second : 64 * stop + 1 < pair.gap + pair.second
