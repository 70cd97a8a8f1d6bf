-- A target that passes tests 2 and 3. Definitions only.
use Rattle.std.specs.Prelude.{ℕ, ◌≤◌, ◌≡◌}
use Rattle.numbers.specs.Limits.{least_precision, most_precision, limbs_for}

-- the target has p digits and as many limbs as they take
pub record Room (p n : ℕ) : Type 0 where
  pub least : least_precision ≤ p
  pub most : p ≤ most_precision
  pub count : n ≡ limbs_for p
