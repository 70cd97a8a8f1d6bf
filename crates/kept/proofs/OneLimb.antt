-- A run of one limb: what its list is worth, and what the steps by value leave. Assumes nothing.
use mathlib.Core.Path.{◌≡◌, refl, ap, ◌∙◌}
use mathlib.Core.Bool.{Bool, false}
use mathlib.Core.List.{[], ◌∷◌}
use Prim.Native.Nat.{ℕ, ◌+◌, ◌*◌, ◌/◌, ◌%◌, ◌^◌, ◌≤◌, ◌<◌}
use native.Mathlib.Nat.{mul-mod_left}
use native.Mathlib.Omega.{arith}
use lib.Pow.{shr-shr}
use Rattle.limb.proofs.Value.{one_below}
use Rattle.limb.specs.Carry.{bit}
use Rattle.limb.specs.Value.{value_in}
use Rattle.kept.specs.Walk.{whole, Reaches, Holds, UnitAdded}
use Rattle.kept.proofs.Moves.{cleared}
use Rattle.kept.proofs.Reaching.{brought_whole, reach_plain}
use Rattle.kept.proofs.Unit.{unit_start, unit_turn}

pub one_value : (x : ℕ) → value_in (2 ^ 64) (x ∷ []) ≡ x
unfolding value_in
one_value x = omega arith

-- the unit is added to it
pub one_added : (x add s k : ℕ) (out : Bool) → add ≡ 2 ^ k → s + 2 ^ 64 * bit out ≡ x + add + bit false → UnitAdded k (x ∷ []) out (s ∷ [])
unfolding bit
one_added x add s k out a e = record { size = refl; value = unit_turn (2 ^ 64) (x ∷ []) 0 add _ s (bit out) (omega arith) e (unit_start (2 ^ 64) (x ∷ []) add (2 ^ k) a) }

module _ (x guard : ℕ) (lt : x < 2 ^ 64) (few : guard < 2 ^ 64) where
  -- its first digit is 1
  pub one_reaches : 2 ^ 63 ≤ x → Reaches false (x ∷ []) 64
  one_reaches h = reach_plain false (x ∷ []) 0 (one_below x lt) (omega arith) (omega arith) refl (omega arith) (omega arith)

  module _ (s : ℕ) (less : s < 64) where
    pub one_kept : Holds 1 (whole false (x ∷ []) guard / 2 ^ (64 + s) * 2 ^ s) (x / 2 ^ s * 2 ^ s % 2 ^ 64 ∷ [])
    one_kept =
        record {
          size = refl;
          value =
              cleared (x ∷ []) s less (omega arith) lt
              ∙ ap (λ (m : ℕ). m / 2 ^ s * 2 ^ s) (brought_whole false (x ∷ []) guard 64 few refl refl)
              ∙ ap (λ (m : ℕ). m * 2 ^ s) (shr-shr (whole false (x ∷ []) guard) 64 s);
        }

    pub one_clean : value_in (2 ^ 64) (x / 2 ^ s * 2 ^ s % 2 ^ 64 ∷ []) % 2 ^ s ≡ 0
    one_clean = ap (λ (m : ℕ). m % 2 ^ s) one_kept.value ∙ mul-mod_left (whole false (x ∷ []) guard / 2 ^ (64 + s)) (2 ^ s)
