-- A number changed by one, from a limb up. Definitions only.
use Rattle.std.specs.Prelude.{ℕ, suc, ◌+◌, ◌-◌, ◌*◌, ◌^◌, ◌<◌, ◌≡◌, Bool, Option, Some, None, List, length, take, drop}
use Rattle.limb.specs.Value.{value_of}
use Rattle.limb.specs.Carry.{bit}
use Rattle.walk.specs.declared.change.Change.{Change}
use Rattle.walk.specs.declared.change.Change.TheVariants.{Rise, Fall}

-- n becomes m
abbrev pub Moved : Option Change → ℕ → ℕ → Type 0
Moved None n m = m ≡ n
Moved (Some Rise) n m = m ≡ suc n
Moved (Some Fall) n m = suc m ≡ n

-- n, changed by u, becomes m, and `out` goes out of it: added for a rise, lent for a fall
abbrev pub Balanced : Change → ℕ → ℕ → ℕ → ℕ → Type 0
Balanced Rise u m n out = m + out ≡ n + u
Balanced Fall u m n out = m + u ≡ n + out

-- one added at limb `from`, or taken off there; the limbs below it stay
pub record ChangedFrom (change : Change) (from : ℕ) (before after : List ℕ) (out : Bool) : Type 0 where
  pub same_length : length after ≡ length before
  pub below : take from after ≡ take from before
  pub value : Balanced change ((2 ^ 64) ^ from) (value_of after) (value_of before) ((2 ^ 64) ^ length before * bit out)

-- the limbs from a place on, with a carry above them
unfoldable pub part_of : ℕ → Bool → List ℕ → ℕ
part_of from carry l = bit carry * (2 ^ 64) ^ (length l - from) + value_of (drop from l)

-- they are changed by one, where there is room for what comes out
pub record ChangedAt (change : Option Change) (from : ℕ) (carry : Bool) (before after : List ℕ) (out : Bool) : Type 0 where
  pub same_length : length after ≡ length before
  pub value : (m : ℕ) → Moved change (part_of from carry before) m → m < 2 * (2 ^ 64) ^ (length before - from) → part_of from out after ≡ m

-- a number above · 2 ^ 64 + limb is changed by one where `above` is changed as `up` says and the limb becomes `next`
abbrev pub PassesLimb : Option Change → ℕ → Option Change → ℕ → Type 0
PassesLimb change limb up next = (h m : ℕ) → Moved change (h * 2 ^ 64 + limb) m → (g : ℕ) × (Moved up h g) × (m ≡ g * 2 ^ 64 + next)
