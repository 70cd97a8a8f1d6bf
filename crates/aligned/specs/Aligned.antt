-- Two numbers of one exponent that have as many limbs as the target. Definitions only.
use Rattle.std.specs.Prelude.{ℕ, ◌+◌, ◌-◌, ◌*◌, ◌^◌, ◌≤◌, ◌<◌, ◌≡◌, Bool, false, List, length, take, drop, get_or}
use Rattle.std.specs.Bool.{beq}
use Rattle.limb.specs.Value.{value_of}
use Rattle.limb.specs.Carry.{bit}
use Rattle.numbers.specs.Operand.{Operand, WellFormed}
use Rattle.bridge.specs.Verdict.{pair_of, read_sum}
use Rattle.checks.specs.Room.{Room}
use Rattle.descent.specs.Course.{Course, Inland}

-- two regular operands of one exponent, and n limbs of each
pub record Aligned (x y : Operand) (n : ℕ) : Type 0 where
  pub first : WellFormed x
  pub second : WellFormed y
  pub first_regular : x.is_zero ≡ false
  pub second_regular : y.is_zero ≡ false
  pub even : y.exponent ≡ x.exponent
  pub first_limbs : length x.limbs ≡ n
  pub second_limbs : length y.limbs ≡ n

-- two such operands of unlike signs, of which all limbs are alike
pub record Cancelling (x y : Operand) (n : ℕ) : Type 0 where
  pub aligned : Aligned x y n
  pub unlike : beq x.negative y.negative ≡ false
  pub level : value_of y.limbs ≡ value_of x.limbs

-- of two runs of one length z limbs at the top are alike, and no more
pub record Alike (a b : List ℕ) (z : ℕ) : Type 0 where
  pub within : z ≤ length a
  pub level : value_of (drop (length a - z) b) ≡ value_of (drop (length a - z) a)
  pub next : z < length a → get_or a (length a - 1 - z) 0 ≡ get_or b (length a - 1 - z) 0 → ⊥

-- two runs of n limbs, of which the first is no less below the top z
pub record Reducible (first second : List ℕ) (n z : ℕ) : Type 0 where
  pub within : z ≤ n
  pub first_limbs : length first ≡ n
  pub second_limbs : length second ≡ n
  pub less : value_of (take (n - z) second) ≤ value_of (take (n - z) first)

-- their difference below the top z limbs, moved up by as many
pub record Subtracted (first second before after : List ℕ) (z : ℕ) : Type 0 where
  pub size : length after ≡ length before
  pub value : value_of after ≡ (value_of (take (length before - z) first) - value_of (take (length before - z) second)) * 2 ^ (64 * z)

-- two such operands of a target of p digits, of which n columns read all: alike in the first z, and no refusal is near
pub record Covered (p : ℕ) (x y : Operand) (n z top : ℕ) : Type 0 where
  pub room : Room p n
  pub aligned : Aligned x y n
  pub course : Course x y z
  pub within : z < n
  pub top_is : top ≡ x.exponent
  pub inland : Inland (pair_of x y) n

-- all that there is of their sum stands in the target, moved up by z columns, with a carry on top
pub record Standing (p : ℕ) (x y : Operand) (target : List ℕ) (carry : Bool) (z top : ℕ) : Type 0 where
  pub covered : Covered p x y (length target) z top
  pub value : bit carry * 2 ^ (64 * length target) + value_of target ≡ read_sum x y (length target) * 2 ^ (64 * z)
  pub led : carry ≡ false → 0 < get_or target (length target - 1) 0
