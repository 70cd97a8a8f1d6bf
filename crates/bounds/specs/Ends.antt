-- What a range test asks of a pair after k columns, and of the digits of D. Definitions only.
use Rattle.std.specs.Prelude.{ℕ, suc, ◌-◌, ◌*◌, ◌/◌, ◌^◌, ◌≤◌, ◌<◌, ◌≡◌, Bool, not, ◌&&◌, leb, eqb}
use Rattle.std.specs.Float.Ieee.{size}
use Rattle.settle.specs.declared.rows.Pair.{Pair}

-- the second operand lies below all that is read; just below it
unfoldable pub is_far : Pair → ℕ → Bool
is_far s k = not (eqb s.second 0) && leb (64 * k) s.gap

unfoldable pub is_next : Pair → ℕ → Bool
is_next s k = is_far s k && eqb s.gap (64 * k)

-- the digits of the first operand that are not read
unfoldable pub open_digits : Pair → ℕ → ℕ
open_digits s k = s.first - 64 * k

-- the first p digits of D, or all where there are fewer, are 1
pub record Ones (p D : ℕ) (ones : Bool) : Type 0 where
  pub long : p ≤ size D → ones ≡ eqb (suc (D / 2 ^ (size D - p))) (2 ^ p)
  pub short : size D < p → ones ≡ eqb (suc D) (2 ^ size D)
