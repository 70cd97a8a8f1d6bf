-- What trim leaves is the end of the run. Assumes nothing.
use mathlib.Core.Path.{◌≡◌, refl}
use Prim.Native.Nat.{ℕ, zero, suc, ◌+◌, ◌-◌, ◌≤◌}
use mathlib.Core.List.{List, [], ◌∷◌}
use native.Mathlib.Omega.{arith}
use lib.ListN.{length, drop}
use Rattle.parts.specs.Trimmed.{trimmed}
use Rattle.parts.proofs.Trimming.{trimmed_length}

pub trimmed_drop : (l : List ℕ) → drop (length l - length (trimmed l)) l ≡ trimmed l
unfolding trimmed
trimmed_drop [] = refl
trimmed_drop (zero ∷ xs) =
    let less : suc (length xs) - length (trimmed xs) ≡ suc (length xs - length (trimmed xs)) = omega (arith, trimmed_length xs) in
    rw less (trimmed_drop xs)
trimmed_drop (suc x ∷ xs) =
    let none : suc (length xs) - suc (length xs) ≡ 0 = omega arith in
    rw none refl

-- a part that is what trim leaves is no longer than the run, and begins where the run is longer than it
pub part_fits : (l part : List ℕ) → part ≡ trimmed l → length part ≤ length l
part_fits l part e = rw e (trimmed_length l)

pub part_begins : (l part : List ℕ) → part ≡ trimmed l → (drop (length l - length part) l ≡ trimmed l) × (length l - length part + length part ≡ length l)
part_begins l part e = (rw e (trimmed_drop l), omega (arith, part_fits l part e))
