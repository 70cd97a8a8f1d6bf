-- What the two walks over the target leave. Definitions only.
use Rattle.std.specs.Prelude.{◌≡◌, Bool, true, false, cond, List, ℕ, ◌+◌, ◌-◌, ◌*◌, ◌^◌, ◌≤◌, ◌<◌, eqb, length}
use Rattle.limb.specs.Value.{value_of}
use Rattle.limb.specs.Carry.{bit}

-- the target with the carry on top
unfoldable pub headed : Bool → List ℕ → ℕ
headed carry target = bit carry * 2 ^ (64 * length target) + value_of target

-- and with the guard below
unfoldable pub whole : Bool → List ℕ → ℕ → ℕ
whole carry target guard = headed carry target * 2 ^ 64 + guard

-- the run has as many digits as the target and `offset` more
pub record Reaches (carry : Bool) (target : List ℕ) (offset : ℕ) : Type 0 where
  pub positive : 0 < offset
  pub most : offset ≤ 65
  pub carried : carry ≡ true → 65 ≤ offset
  pub plain : carry ≡ false → offset ≤ 64
  pub first : 2 ^ (64 * length target + offset) ≤ 2 * (headed carry target * 2 ^ 64)
  pub top : (headed carry target + 1) * 2 ^ 64 ≤ 2 ^ (64 * length target + offset)

-- so many limbs, worth n
pub record Holds (room n : ℕ) (limbs : List ℕ) : Type 0 where
  pub size : length limbs ≡ room
  pub value : value_of limbs ≡ n

-- before and the last unit are after, with the carry out on top
pub record UnitAdded (spare : ℕ) (before : List ℕ) (out : Bool) (after : List ℕ) : Type 0 where
  pub size : length after ≡ length before
  pub value : value_of after + (2 ^ 64) ^ length before * bit out ≡ value_of before + 2 ^ spare

-- m, at most 2 ^ p, as p digits: "Rounding up 0.11..1" gives a 1 with zeros below it, one exponent up
unfoldable pub is_full : ℕ → ℕ → Bool
is_full p m = eqb m (2 ^ p)

unfoldable pub as_digits : ℕ → ℕ → ℕ
as_digits p m = cond (is_full p m) (2 ^ (p - 1)) m

-- m are the digits of before, with the last unit where it is added
pub record RoundedUp (spare m : ℕ) (before : List ℕ) (out : Bool) (after : List ℕ) : Type 0 where
  pub size : length after ≡ length before
  pub out_is : out ≡ is_full (64 * length before - spare) m
  pub value : value_of after ≡ as_digits (64 * length before - spare) m * 2 ^ spare
