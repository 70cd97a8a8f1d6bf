-- The first columns of an operand as a whole number. Definitions only.
use Rattle.std.specs.Prelude.{ℕ, suc, ◌+◌, ◌-◌, ◌*◌, ◌/◌, ◌%◌, ◌^◌, cond, List, ltb, length, get_or}
use Rattle.limb.specs.Value.{value_of}

-- the digits in the first k columns, of an operand whose first digit stands `gap` digits below the top of column 0, counted in the last weight of column k - 1
unfoldable pub read_to : ℕ → ℕ → List ℕ → ℕ
read_to k gap l = value_of l * 2 ^ (64 * k) / 2 ^ (64 * length l + gap)

-- column j alone
unfoldable pub column_of : ℕ → ℕ → List ℕ → ℕ
column_of j gap l = read_to (suc j) gap l % 2 ^ 64

-- the limb that stands i limbs below the top, 0 past the lowest
unfoldable pub limb_below : ℕ → List ℕ → ℕ
limb_below i l = cond (ltb i (length l)) (get_or l (length l - suc i) 0) 0
