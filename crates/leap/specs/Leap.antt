-- Many columns at once. Definitions only.
use Rattle.std.specs.Prelude.{ℕ, ◌+◌, ◌-◌, ◌*◌, ◌%◌, ◌^◌, ◌≤◌, ◌<◌, ◌≡◌, Bool, None, List, length}
use Rattle.limb.specs.Carry.{bit}
use Rattle.limb.specs.Value.{value_of}
use Rattle.limb.specs.Column.{Column}
use Rattle.walk.specs.Window.{head_of, Shows}
use Rattle.walk.specs.declared.state.Window.{Window}
use Rattle.walk.specs.declared.state.Tail.TheVariants.{Empty}

-- the first k columns end within an operand's limbs
pub record Within (k gap : ℕ) (l : List ℕ) : Type 0 where
  pub columns : 64 * k ≤ 64 * length l + gap
  pub limbs : length l ≤ 2 ^ 20
  pub near : gap ≤ 2 ^ 42

-- columns `from` to k and with it fill n limbs
pub record Leap (from k n : ℕ) : Type 0 where
  pub some : 0 < n
  pub room : from + n ≡ k + 1
  pub few : k ≤ 2 ^ 20

-- the lowest n limbs of two numbers, x in the first operand and y in the second, as one column of a sum or a difference
pub record Columns (column : Column) (x y : ℕ) (carry : Bool) (n : ℕ) (after : List ℕ) (out : Bool) : Type 0 where
  pub size : length after ≡ n
  pub value : column (2 ^ (64 * n)) (y % 2 ^ (64 * n)) (x % 2 ^ (64 * n)) (bit carry) (value_of after) (bit out)

-- limbs filled, and nothing below them
unfoldable pub leapt_to : ℕ → Bool → ℕ → Window
leapt_to skipped carry filled = record { skipped = skipped; carry = carry; filled = filled; guard = None; tail = Empty }

-- the window shows D after k columns, `from` of them passed over, where its first limb is not emptied by a borrow
pub record Leapt (from k D : ℕ) (before after : List ℕ) (w : Window) : Type 0 where
  pub same_length : length after ≡ length before
  pub same_skip : w.skipped ≡ from
  pub no_tail : w.tail ≡ Empty
  pub full : w.filled ≡ length after
  pub value : D ≡ head_of w after
  pub shows : 2 ^ (64 * (k - from - 1)) < D → Shows w after k D
