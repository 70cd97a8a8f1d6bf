-- The first operand alone in the target: what is held of it there, and what is answered. Definitions only.
use Rattle.std.specs.Prelude.{ℕ, ◌+◌, ◌-◌, ◌*◌, ◌^◌, ◌≤◌, ◌<◌, ◌≡◌, Bool, true, false, List, length}
use Rattle.limb.specs.Value.{Below}
use Rattle.rounding.specs.declared.Mode.{Mode}
use Rattle.place.specs.declared.Placed.{Placed}
use Rattle.place.specs.Rounded.{rounded_placed, rounded_limbs}
use Rattle.settle.specs.declared.rows.Pair.{Pair}
use Rattle.checks.specs.Room.{Room}
use Rattle.descent.specs.Course.{Inland}
use Rattle.wide.specs.Filling.{Offered}
use Rattle.wide.specs.Beside.{Beside}

-- some second operand begins below all columns of the target and more than a digit below those asked for, and no refusal is near
pub record Alone (p : ℕ) (pair : Pair) (first target : List ℕ) : Type 0 where
  pub second : List ℕ
  pub offered : Offered pair first second
  pub room : Room p (length target)
  pub long : length first ≡ length target
  pub below : 64 * length target ≤ pair.gap
  pub far : p + 1 < pair.gap
  pub inland : Inland pair (length target - 1)

-- a little more or a little less than `first`, as a run of limbs with its guard, is rounded
pub record Answered (mode : Mode) (p : ℕ) (negative : Bool) (pair : Pair) (first : List ℕ) (r : Placed) (exit : List ℕ) : Type 0 where
  pub run : List ℕ
  pub guard : ℕ
  pub limbs : Below (2 ^ 64) run
  pub beside : Beside pair.same first run guard
  pub placed : r ≡ rounded_placed mode p negative (pair.top - 64 * (length run + 1)) false run guard true
  pub left : exit ≡ rounded_limbs mode p negative (pair.top - 64 * (length run + 1)) false run guard true
