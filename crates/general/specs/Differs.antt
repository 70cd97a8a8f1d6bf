-- Where two runs of limbs differ. Definitions only.
use Rattle.std.specs.Prelude.{ℕ, suc, ◌<◌, max, ◌≡◌, true, false, List, length, Option, None, Some}
use Rattle.columns.specs.Column.{read_to}
use Rattle.general.specs.declared.regular.Difference.{Difference}

-- up to a column two runs of limbs read alike, and with it the first is larger
pub record Above (x y : List ℕ) (k : ℕ) : Type 0 where
  pub within : k < max (length x) (length y)
  pub alike : read_to k 0 y ≡ read_to k 0 x
  pub larger : read_to (suc k) 0 y < read_to (suc k) 0 x

-- the first column in which two runs of limbs differ, and which is larger there; or all their columns are alike
abbrev pub Differs : List ℕ → List ℕ → Option Difference → Type 0
Differs x y None = read_to (max (length x) (length y)) 0 y ≡ read_to (max (length x) (length y)) 0 x
Differs x y (Some d) = (d.second_larger ≡ false → Above x y d.column) × (d.second_larger ≡ true → Above y x d.column)
