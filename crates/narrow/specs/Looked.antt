-- What a look at two operands, or at one beside a zero, tells where it tells something. Definitions only.
use Rattle.std.specs.Prelude.{ℕ, ◌≡◌, [], ◌∷◌}
use Rattle.numbers.specs.Operand.{Operand}
use Rattle.rounding.specs.declared.Mode.{Mode}
use Rattle.rounding.specs.Sum.{add}
use Rattle.depth.specs.Columns.{top_exponent, limbs_used}
use Rattle.depth.specs.Depth.{plus, Depth}
use Rattle.descent.specs.Finishing.{Left}
use Rattle.reports.specs.Signed.{Signed}
use Rattle.narrow.specs.declared.looking.Sight.{Sight}

-- one column is the depth, the answer stands in one limb, its sign is told, and the limbs used of each operand
pub record Looked (o : Mode) (p : ℕ) (x y : Operand) (r : Sight) : Type 0 where
  pub depth : Depth plus o p x y 1
  pub left : Left p (add o p x y) (r.seen.limb ∷ []) r.seen.placed
  pub signed : Signed r.seen.negative (add o p x y)
  pub first : r.first ≡ limbs_used (top_exponent x y) 1 x
  pub second : r.second ≡ limbs_used (top_exponent x y) 1 y
