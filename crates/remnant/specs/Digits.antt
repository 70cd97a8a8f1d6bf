-- How many digits a window shows. Definitions only.
use Rattle.std.specs.Prelude.{is_some}
use Rattle.std.specs.Prelude.{ℕ, ◌+◌, ◌*◌, ◌≤◌, ◌≡◌, true, List}
use Rattle.std.specs.Float.Ieee.{size}
use Rattle.limb.specs.Carry.{bit}
use Rattle.walk.specs.declared.state.Window.{Window}
use Rattle.walk.specs.Window.{Shows}

pub record ShowsDigits (w : Window) (target : List ℕ) (r : ℕ) : Type 0 where
  -- the carry, the limbs filled and the guard have no more, and the carry and the guard no less
  pub most : r ≤ 64 * w.filled + 64 * bit (is_some w.guard) + bit w.carry
  pub least : 64 * bit (is_some w.guard) + bit w.carry ≤ r
  -- with a carry each limb has all its digits
  pub carried : w.carry ≡ true → r ≡ 64 * w.filled + 64 * bit (is_some w.guard) + 1
  -- those of D, without the columns of the tail
  pub exact : (k D : ℕ) (s : Shows w target k D) → r + 64 * s.below ≡ size D
