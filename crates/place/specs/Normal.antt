-- The digits of a run of one limb from its first on. Definitions only.
use Rattle.std.specs.Prelude.{◌≡◌, Bool, true, false, not, ◌||◌, [], ◌∷◌, ℕ, ◌+◌, ◌-◌, ◌*◌, ◌%◌, ◌^◌, ◌≤◌, ◌<◌, eqb}
use Rattle.place.specs.declared.one.Normal.{Normal}
use Rattle.kept.specs.Walk.{whole}

-- With a carry the run goes down by a bit, and the digit that leaves the guard counts only as something; else it goes up by its zeros.
-- The weight of the guard's last digit goes along.
pub record Normalized (carry : Bool) (limb guard : ℕ) (more : Bool) (unit : ℕ) (r : Normal) : Type 0 where
  pub first : 2 ^ 63 ≤ r.limb
  pub carried : carry ≡ true
      → (whole carry (limb ∷ []) guard ≡ whole false (r.limb ∷ []) r.guard * 2 + guard % 2) × (r.more ≡ (not (eqb (guard % 2) 0) || more)) × (r.unit ≡ unit + 1)
  pub plain : carry ≡ false
      → (whole false (r.limb ∷ []) r.guard ≡ whole carry (limb ∷ []) guard * 2 ^ (unit - r.unit)) × (r.more ≡ more) × (r.unit ≤ unit) × (unit < r.unit + 64)
