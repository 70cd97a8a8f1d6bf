-- The first operand of a hole, and the signs that a pair and a way stand for. Definitions only.
use Rattle.std.specs.Prelude.{ℕ, ◌-◌, ◌*◌, ◌%◌, ◌^◌, ◌≤◌, ◌<◌, ◌≡◌, Bool, List, length}
use Rattle.std.specs.Bool.{beq}
use Rattle.limb.specs.Value.{value_of}
use Rattle.numbers.specs.Limits.{limbs_for}
use Rattle.numbers.specs.Operand.{spare_bits}
use Rattle.rounding.specs.Mode.{way}
use Rattle.rounding.specs.declared.Mode.{Mode}
use Rattle.settle.specs.Ways.{theory_way}
use Rattle.settle.specs.declared.rows.Pair.{Pair}
use Rattle.settle.specs.declared.rows.Way.{Way}

-- the limbs of a regular number of p digits
pub record Formed (p : ℕ) (l : List ℕ) : Type 0 where
  pub least : 0 < p
  pub most : p ≤ 2 ^ 20
  pub count : length l ≡ limbs_for p
  pub lead : 2 ^ (64 * limbs_for p - 1) ≤ value_of l
  pub spare : value_of l % 2 ^ spare_bits p ≡ 0

-- all of the first operand is read, and the second begins below it
pub record InHole (s : Pair) (l : List ℕ) : Type 0 where
  pub formed : Formed s.first l
  pub below : s.first ≤ s.gap
  pub gap : s.gap ≤ 2 ^ 42

-- under mode o, the operands having the signs a and b
pub record Signs (o : Mode) (a b : Bool) (s : Pair) (w : Way) : Type 0 where
  pub same : s.same ≡ beq a b
  pub toward : theory_way w ≡ way o a
