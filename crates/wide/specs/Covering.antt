-- An operand that fills a target. Definitions only.
use Rattle.std.specs.Prelude.{ℕ, ◌^◌, ◌≤◌, ◌<◌}

-- an operand of m limbs has as many as a target of n, or more
pub record Covers (m n : ℕ) : Type 0 where
  pub some : 0 < n
  pub enough : n ≤ m
  pub few : m ≤ 2 ^ 20
