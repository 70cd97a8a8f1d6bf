-- The limbs of a number, as far as there is room for them. Definitions only.
-- Document 01, "Limbs": what passes the top is dropped.
use Rattle.std.specs.Prelude.{◌≡◌, List, ℕ, ◌%◌, ◌^◌, length}
use Rattle.limb.specs.Value.{value_of}

-- `limbs` are the lowest limbs of n, `room` of them
pub record LowLimbs (room n : ℕ) (limbs : List ℕ) : Type 0 where
  pub size : length limbs ≡ room
  pub value : value_of limbs ≡ n % (2 ^ 64) ^ room
