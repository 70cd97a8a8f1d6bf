-- The sum and the difference of two numbers, in limbs. Definitions only.
-- Document 01, "Limbs": a limb sum drops what passes 2^64, and the carry out is 1 exactly when something was dropped.
-- limb/specs/Column has the columns of sums and differences.
use Rattle.std.specs.Prelude.{◌≡◌, Bool, List, ℕ, ◌+◌, ◌*◌, ◌%◌, ◌^◌, length, take, get_or, set}
use Rattle.limb.specs.Carry.{bit}
use Rattle.limb.specs.Column.{Column}
use Rattle.limb.specs.Value.{value_of}

-- x, y and the carry give limb i of after and the carry out; the other limbs stay
pub record LimbFused (column : Column) (i x y : ℕ) (carry : Bool) (before after : List ℕ) (out : Bool) : Type 0 where
  pub others : after ≡ set before i (get_or after i 0)
  pub limb : column (2 ^ 64) x y (bit carry) (get_or after i 0) (bit out)

-- the lowest i limbs of x and y and the carry in give those of t, of n limbs, and the carry k
pub record FusedTo (column : Column) (i x y : ℕ) (first : Bool) (n : ℕ) (t : List ℕ) (k : Bool) : Type 0 where
  pub size : length t ≡ n
  pub value : column ((2 ^ 64) ^ i) (x % (2 ^ 64) ^ i) (y % (2 ^ 64) ^ i) (bit first) (value_of (take i t)) (bit k)

-- x, y and the carry give after, n limbs, and the carry out
pub record FusedOf (column : Column) (x y : ℕ) (carry : Bool) (n : ℕ) (after : List ℕ) (out : Bool) : Type 0 where
  pub size : length after ≡ n
  pub value : column (2 ^ (64 * n)) x y (bit carry) (value_of after) (bit out)

-- x + y + carry is after, n limbs, with the carry out on top
pub record SumOf (x y : ℕ) (carry : Bool) (n : ℕ) (after : List ℕ) (out : Bool) : Type 0 where
  pub size : length after ≡ n
  pub value : value_of after + 2 ^ (64 * n) * bit out ≡ x + y + bit carry

-- x - y - borrow is after, n limbs, with the borrow out on top of x
pub record DifferenceOf (x y : ℕ) (borrow : Bool) (n : ℕ) (after : List ℕ) (out : Bool) : Type 0 where
  pub size : length after ≡ n
  pub value : value_of after + y + bit borrow ≡ x + 2 ^ (64 * n) * bit out
