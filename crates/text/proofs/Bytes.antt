-- The bytes of a text, so that an example's line can be read. Definitions only.
use Rattle.std.proofs.Common.{ℕ, List, [] as none, ◌∷◌ as ◌before◌}
use Prim.Native.Char.{code}
use Prim.Native.String.{String, [], ◌∷◌}

unfoldable pub bytes : String → List ℕ
bytes [] = none
bytes (c ∷ s) = code c before bytes s
