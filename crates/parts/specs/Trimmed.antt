-- What trim hands back. Definitions only.
-- Document 01, "Trim": the caller's own limbs from the lowest non-zero one to the top, and nothing if all are 0.
use Rattle.std.specs.Prelude.{ℕ, zero, suc, List, [], ◌∷◌}

unfoldable pub trimmed : List ℕ → List ℕ
trimmed [] = []
trimmed (zero ∷ xs) = trimmed xs
trimmed (suc x ∷ xs) = suc x ∷ xs
