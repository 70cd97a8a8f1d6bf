-- What a window shows of the sum or difference D of the columns read. Definitions only.
use Rattle.std.specs.Prelude.{ℕ, suc, ◌+◌, ◌-◌, ◌*◌, ◌^◌, ◌≤◌, ◌<◌, ◌≡◌, true, false, cond, is_some, unwrap_or, List, length, drop}
use Rattle.limb.specs.Value.{value_of}
use Rattle.limb.specs.Carry.{bit}
use Rattle.walk.specs.declared.state.Window.{Window}
use Rattle.walk.specs.declared.state.Tail.{Tail}
use Rattle.walk.specs.declared.state.Tail.TheVariants.{Empty, Zeros, Ones, Mixed}

-- the limb that stands in the guard, 0 where none does
abbrev pub guard_of : Window → ℕ
guard_of w = unwrap_or w.guard 0

-- the carry and the limbs filled, from the top
unfoldable pub head_of : Window → List ℕ → ℕ
head_of w target = bit w.carry * 2 ^ (64 * w.filled) + value_of (drop (length target - w.filled) target)

-- and the guard
unfoldable pub shown_of : Window → List ℕ → ℕ
shown_of w target = cond (is_some w.guard) (head_of w target * 2 ^ 64 + guard_of w) (head_of w target)

-- the columns that stand there
unfoldable pub shown_columns : Window → ℕ
shown_columns w = w.filled + bit (is_some w.guard)

-- the t columns below the guard, as the number r
abbrev pub TailIs : Tail → ℕ → ℕ → Type 0
TailIs Empty t r = (t ≡ 0) × (r ≡ 0)
TailIs Zeros t r = (0 < t) × (r ≡ 0)
TailIs Ones t r = (0 < t) × (suc r ≡ 2 ^ (64 * t))
TailIs Mixed t r = (0 < t) × (0 < r) × (suc r < 2 ^ (64 * t))

-- a window that fits its target: only a full target has a guard, and only a guard has a tail
pub record Fits (w : Window) (target : List ℕ) : Type 0 where
  pub limbs : 0 < length target
  pub within : w.filled ≤ length target
  pub guard_fits : guard_of w < 2 ^ 64
  pub full : is_some w.guard ≡ true → w.filled ≡ length target
  pub untailed : is_some w.guard ≡ false → w.tail ≡ Empty

-- after k columns the window shows D
pub record Shows (w : Window) (target : List ℕ) (k D : ℕ) : Type 0 where
  pub fits : Fits w target
  pub below : ℕ
  pub rest : ℕ
  pub columns : w.skipped + shown_columns w + below ≡ k
  pub tail : TailIs w.tail below rest
  pub value : D ≡ shown_of w target * 2 ^ (64 * below) + rest
  -- the first limb filled is not empty, and a borrow from below does not empty it
  pub leads : 0 < w.filled → 2 ^ (64 * (shown_columns w + below - 1)) < D
