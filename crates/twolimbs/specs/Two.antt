-- What stands in two columns, and its digits from the first on. Definitions only.
use Rattle.std.specs.Prelude.{ℕ, ◌+◌, ◌*◌, ◌^◌, ◌≤◌, ◌≡◌, Bool, false}
use Rattle.limb.specs.Carry.{bit}
use Rattle.twolimbs.specs.declared.Normal.{Normal}

-- a carry and two limbs, in base B
unfoldable pub head_in : ℕ → Bool → ℕ → ℕ → ℕ
head_in B carry high low = (bit carry * B + high) * B + low

-- D, in units of 2 ^ top, with its first digit at the top of two limbs
pub record Brought (D top : ℕ) (r : Normal) : Type 0 where
  pub first : 2 ^ 63 ≤ r.high
  pub worth : head_in (2 ^ 64) false r.high r.low * 2 ^ r.exponent ≡ D * 2 ^ top
