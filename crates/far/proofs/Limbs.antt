-- As many columns as an operand has limbs. Assumes nothing.
use mathlib.Core.Path.{◌≡◌}
use mathlib.Core.List.{List}
use Prim.Native.Nat.{ℕ, ◌*◌}
use native.Mathlib.Nat.{add-zero, mul-div_cancel}
use lib.ListN.{length}
use lib.Pow.{pow_pos}
use Rattle.limb.specs.Value.{value_of}
use Rattle.columns.specs.Column.{read_to}

-- the columns of an operand are its limbs
pub read_all : (l : List ℕ) → read_to (length l) 0 l ≡ value_of l
unfolding read_to
read_all l = rw (add-zero (64 * length l)) (mul-div_cancel (value_of l) (pow_pos (64 * length l)))
