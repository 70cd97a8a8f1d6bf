-- When an exponent is in range. Definitions only.
use Rattle.std.specs.Prelude.{◌≡◌, List, ℕ, ◌≤◌, ◌<◌, ℤ, length, replicate}
use Rattle.numbers.specs.Limits.{least_exponent, most_exponent}
use Rattle.place.specs.declared.Placed.{Placed}
use Rattle.place.specs.Rounded.{refused_by}

-- "If the selected exponent is then above or below its range, the call is refused (6 or 7)."
pub record Settled (exponent : ℕ) (ternary : ℤ) (before : List ℕ) (r : Placed) (after : List ℕ) : Type 0 where
  pub large : most_exponent < exponent → (r ≡ refused_by 6) × (after ≡ replicate (length before) 0)
  pub small : exponent < least_exponent → (r ≡ refused_by 7) × (after ≡ replicate (length before) 0)
  pub inside : least_exponent ≤ exponent → exponent ≤ most_exponent
      → (r ≡ record { rule = 0; exponent = exponent; ternary = ternary }) × (after ≡ before)
