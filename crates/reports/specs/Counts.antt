-- The limbs used of an operand, as they are counted. Definitions only.
use Rattle.std.specs.Prelude.{ℕ, ◌+◌, ◌-◌, ◌*◌, ◌/◌, min, cond, leb}

-- the limbs used of n for a depth of k, of an operand that begins gap digits below the top
unfoldable pub used_of : ℕ → ℕ → ℕ → ℕ
used_of k gap n = cond (leb (64 * k) gap) 0 (min n ((64 * k - gap + 63) / 64))
