-- A whole number as limbs, lowest first. Definitions only.
use Rattle.std.specs.Prelude.{ℕ, zero, suc, ◌/◌, ◌%◌, ◌^◌, List, [], ◌∷◌}

-- the n limbs of v; what passes them is dropped
unfoldable pub limbs_of : ℕ → ℕ → List ℕ
limbs_of zero v = []
limbs_of (suc n) v = v % 2 ^ 64 ∷ limbs_of n (v / 2 ^ 64)
