-- The whole number that a list of limbs stands for. Definitions only.
-- Document 01, "The numbers": a limb is an unsigned 64-bit number; the limbs stand lowest first.
use Rattle.std.specs.Prelude.{ℕ, ◌+◌, ◌*◌, ◌^◌, ◌<◌, List, [], ◌∷◌, slice_index}

-- in base B, lowest first
unfoldable pub value_in : ℕ → List ℕ → ℕ
value_in B [] = 0
value_in B (x ∷ xs) = x + B * value_in B xs

-- limbs of 64 bits
abbrev pub value_of : List ℕ → ℕ
value_of l = value_in (2 ^ 64) l

-- every entry is a digit in base B (past the end stands 0)
abbrev pub Below : ℕ → List ℕ → Type 0
Below B l = (i : ℕ) → slice_index l i < B
