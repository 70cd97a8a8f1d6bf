-- Two operands of as many limbs as the target, less than a limb apart, and what one walk leaves in it. Definitions only.
use Rattle.std.specs.Prelude.{ℕ, ◌+◌, ◌*◌, ◌^◌, ◌≤◌, ◌<◌, ◌≡◌, Bool, true, false, List, length}
use Rattle.limb.specs.Value.{value_of}
use Rattle.limb.specs.Carry.{bit}
use Rattle.settle.specs.declared.rows.Pair.{Pair}

-- both have n limbs, and the second begins 1 to 63 digits below the first
pub record Abreast (pair : Pair) (first second : List ℕ) (n : ℕ) : Type 0 where
  pub first_long : length first ≡ n
  pub second_long : length second ≡ n
  pub apart : 0 < pair.gap
  pub close : pair.gap < 64

-- n limbs hold a + b, the carry above them; or a - b - borrow, where that is no less than 0
pub record Moved (same : Bool) (a b : ℕ) (borrow : Bool) (n : ℕ) (after : List ℕ) (carry : Bool) : Type 0 where
  pub size : length after ≡ n
  pub sum : same ≡ true → value_of after + 2 ^ (64 * n) * bit carry ≡ a + b
  pub difference : same ≡ false → b + bit borrow ≤ a → (carry ≡ false) × (value_of after + b + bit borrow ≡ a)

-- a limb that falls below the target, added to nothing, or taken off it with a borrow from above
pub record Guarding (same : Bool) (below guard : ℕ) (borrow : Bool) : Type 0 where
  pub sum : same ≡ true → guard ≡ below
  pub difference : same ≡ false → guard + below ≡ 2 ^ 64 * bit borrow
