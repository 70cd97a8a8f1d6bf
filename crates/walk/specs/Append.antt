-- What one column more makes of a window. Definitions only.
-- After k columns the window shows D; n of them stand from the first one shown on.
use Rattle.std.specs.Prelude.{ℕ, suc, ◌+◌, ◌-◌, ◌*◌, ◌^◌, ◌≤◌, ◌<◌, ◌≡◌, Bool, Option, List, length}
use Rattle.limb.specs.Carry.{bit}
use Rattle.walk.specs.declared.state.Window.{Window}
use Rattle.walk.specs.declared.change.Change.{Change}
use Rattle.walk.specs.Change.{Moved}
use Rattle.walk.specs.Window.{Shows}
use Rattle.walk.specs.Tail.{Unmixed}

-- D becomes m, and `low` stands below it
pub record Appended (w : Window) (low : ℕ) (change : Option Change) (before : List ℕ) (r : Window) (after : List ℕ) : Type 0 where
  pub same_length : length after ≡ length before
  pub same_skip : r.skipped ≡ w.skipped
  pub shows :
      (k n D m : ℕ) → Shows w before k D → Unmixed w.tail → w.skipped + n ≡ k → Moved change D m → m < 2 * 2 ^ (64 * n)
      → 2 ^ (64 * n) < m * 2 ^ 64 + low → Shows r after (suc k) (m * 2 ^ 64 + low)

-- a column a of one operand and b of the other, added; the first limb filled must be more than 1
pub record Summed (w : Window) (a b : ℕ) (before : List ℕ) (r : Window) (after : List ℕ) : Type 0 where
  pub same_length : length after ≡ length before
  pub same_skip : r.skipped ≡ w.skipped
  pub shows :
      (k n D : ℕ) → Shows w before k D → Unmixed w.tail → w.skipped + n ≡ k → D * 2 ^ 64 + a + b < 2 * 2 ^ (64 * suc n)
      → (w.filled ≡ 0 → 1 < D * 2 ^ 64 + a + b) → Shows r after (suc k) (D * 2 ^ 64 + a + b)

-- b taken off a
pub record Differed (w : Window) (a b : ℕ) (before : List ℕ) (r : Window) (after : List ℕ) : Type 0 where
  pub same_length : length after ≡ length before
  pub shows : (k D : ℕ) → Shows w before k D → Unmixed w.tail → b ≤ D * 2 ^ 64 + a → Shows r after (suc k) (D * 2 ^ 64 + a - b)

-- the first columns of a difference: E is what they come to
pub record Led (w : Window) (low : ℕ) (borrow : Bool) (before : List ℕ) (r : Window) (after : List ℕ) : Type 0 where
  pub same_length : length after ≡ length before
  pub shows : (k D E : ℕ) → Shows w before k D → E + 2 ^ 64 * bit borrow ≡ D * 2 ^ 64 + low → Shows r after (suc k) E
