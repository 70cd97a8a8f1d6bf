-- What adding a run of limbs into another, or taking it off, leaves. Definitions only.
-- Document 01, "Limbs": a limb sum drops what passes 2^64, and the carry out is 1 exactly when something was dropped. The addition works
-- on a run of limbs that may begin in the middle of an operand.
use Rattle.std.specs.Prelude.{◌≡◌, Bool, List, ℕ, ◌+◌, ◌*◌, ◌^◌, length, take, drop, get_or, set}
use Rattle.limb.specs.Carry.{bit}
use Rattle.limb.specs.Value.{value_of}

-- limbs i to j - 1 of the operand, worth its lowest j less its lowest i, and a carry at limb i are added to before, which gives after with the
-- carry out at limb j
pub record LimbsAdded (i j : ℕ) (before operand : List ℕ) (carry : Bool) (after : List ℕ) (out : Bool) : Type 0 where
  pub same_length : length after ≡ length before
  pub value : value_of after + value_of (take i operand) + (2 ^ 64) ^ j * bit out ≡ value_of before + value_of (take j operand) + (2 ^ 64) ^ i * bit carry

-- before + operand + carry is after with the carry out on top. The operand counts as far as the target goes.
pub record Added (before operand : List ℕ) (carry : Bool) (after : List ℕ) (out : Bool) : Type 0 where
  pub same_length : length after ≡ length before
  pub value : value_of after + (2 ^ 64) ^ length before * bit out ≡ value_of before + value_of (take (length before) operand) + bit carry

-- before - operand - borrow is after, with the borrow out on top of before
pub record Subtracted (before operand : List ℕ) (borrow : Bool) (after : List ℕ) (out : Bool) : Type 0 where
  pub same_length : length after ≡ length before
  pub value : value_of after + value_of (take (length before) operand) + bit borrow ≡ value_of before + (2 ^ 64) ^ length before * bit out

-- limb i of the operand less limb i of before and the borrow is limb i of after, with the borrow out on top; the other limbs stay
pub record LimbReversed (i : ℕ) (before operand : List ℕ) (borrow : Bool) (after : List ℕ) (out : Bool) : Type 0 where
  pub others : after ≡ set before i (get_or after i 0)
  pub limb : get_or after i 0 + get_or before i 0 + bit borrow ≡ get_or operand i 0 + 2 ^ 64 * bit out

-- operand - before - borrow is after, with the borrow out on top of the operand
pub record Reversed (before operand : List ℕ) (borrow : Bool) (after : List ℕ) (out : Bool) : Type 0 where
  pub same_length : length after ≡ length before
  pub value : value_of after + value_of before + bit borrow ≡ value_of (take (length before) operand) + (2 ^ 64) ^ length before * bit out

-- a sum into the part of the target from limb start on; the limbs below it stay
pub record AddedAt (start : ℕ) (before operand : List ℕ) (carry : Bool) (after : List ℕ) (out : Bool) : Type 0 where
  pub below : take start after ≡ take start before
  pub part : Added (drop start before) operand carry (drop start after) out

-- a difference, the same way
pub record SubtractedAt (start : ℕ) (before operand : List ℕ) (borrow : Bool) (after : List ℕ) (out : Bool) : Type 0 where
  pub below : take start after ≡ take start before
  pub part : Subtracted (drop start before) operand borrow (drop start after) out
