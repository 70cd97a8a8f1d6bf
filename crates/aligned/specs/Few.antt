-- Runs of one or two limbs. Definitions only.
use Rattle.std.specs.Prelude.{ℕ, ◌-◌, ◌*◌, ◌^◌, ◌≤◌, ◌<◌, ◌≡◌, false, cond, List, length}
use Rattle.limb.specs.Value.{value_of}
use Rattle.twolimbs.specs.Two.{head_in}
use Rattle.aligned.specs.declared.few.Apart.{Apart}

-- one limb or two
abbrev pub Few : ℕ → Type 0
Few n = (0 < n) × (n ≤ 2)

-- of two runs the larger less the other, at the top of two limbs
pub record AbsoluteDifference (a b : List ℕ) (r : Apart) : Type 0 where
  pub order : value_of (cond r.swapped a b) ≤ value_of (cond r.swapped b a)
  pub worth : head_in (2 ^ 64) false r.high r.low ≡ (value_of (cond r.swapped b a) - value_of (cond r.swapped a b)) * 2 ^ (64 * (2 - length a))
