-- What one run of limbs becomes where it is stepped through with another. Definitions only.
-- limb/specs/Column has the columns of sums and differences.
use Rattle.std.specs.Prelude.{◌≡◌, Bool, List, ℕ, ◌+◌, ◌^◌, length, take, drop, get_or, set}
use Rattle.limb.specs.Carry.{bit}
use Rattle.limb.specs.Column.{Column}
use Rattle.limb.specs.Value.{value_of}

-- limb i of before and of the operand, and the carry, give limb i of after and the carry out; the other limbs stay
pub record LimbStepped (column : Column) (i : ℕ) (before operand : List ℕ) (carry : Bool) (after : List ℕ) (out : Bool) : Type 0 where
  pub others : after ≡ set before i (get_or after i 0)
  pub limb : column (2 ^ 64) (get_or before i 0) (get_or operand i 0) (bit carry) (get_or after i 0) (bit out)

-- four limbs one after the other, from limb i on
pub record FourStepped (column : Column) (i : ℕ) (before operand : List ℕ) (carry : Bool) (after : List ℕ) (out : Bool) : Type 0 where
  pub after_one : List ℕ
  pub after_two : List ℕ
  pub after_three : List ℕ
  pub carry_one : Bool
  pub carry_two : Bool
  pub carry_three : Bool
  pub lowest : LimbStepped column i before operand carry after_one carry_one
  pub second : LimbStepped column (i + 1) after_one operand carry_one after_two carry_two
  pub third : LimbStepped column (i + 2) after_two operand carry_two after_three carry_three
  pub highest : LimbStepped column (i + 3) after_three operand carry_three after out

-- before and the operand, which counts as far as the target goes, are one column, of as many limbs
pub record Stepped (column : Column) (before operand : List ℕ) (carry : Bool) (after : List ℕ) (out : Bool) : Type 0 where
  pub same_length : length after ≡ length before
  pub value : column ((2 ^ 64) ^ length before) (value_of before) (value_of (take (length before) operand)) (bit carry) (value_of after) (bit out)

-- the same of the part of the target from limb start on; the limbs below it stay
pub record SteppedAt (column : Column) (start : ℕ) (before operand : List ℕ) (carry : Bool) (after : List ℕ) (out : Bool) : Type 0 where
  pub below : take start after ≡ take start before
  pub part : Stepped column (drop start before) operand carry (drop start after) out
