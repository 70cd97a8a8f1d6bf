-- What is told of a sum that is read at once: its depth, its answer, and the limbs used. Definitions only.
use Rattle.std.specs.Prelude.{ℕ, ◌≤◌, ◌≡◌, Bool, List, Option, IfSome, cond}
use Rattle.numbers.specs.Operand.{Operand}
use Rattle.rounding.specs.declared.Mode.{Mode}
use Rattle.rounding.specs.Sum.{add}
use Rattle.depth.specs.Bound.{deepest}
use Rattle.depth.specs.Columns.{top_exponent, limbs_used}
use Rattle.depth.specs.Depth.{plus, Depth}
use Rattle.place.specs.declared.Placed.{Placed}
use Rattle.descent.specs.Finishing.{Left}
use Rattle.reports.specs.Signed.{Signed}
use Rattle.settle.specs.declared.rows.Pair.{Pair}
use Rattle.wide.specs.declared.told.Attempt.{Attempt}
use Rattle.wide.specs.Filling.{Holding}

-- the answer's sign, what is told of it, and its limbs in the target; the depth, and the limbs used of each operand
pub record Attempted (o : Mode) (p : ℕ) (x y : Operand) (exit : List ℕ) (negative : Bool) (placed : Placed) (depth first second : ℕ) : Type 0 where
  pub decides : Depth plus o p x y depth
  pub bounded : depth ≤ deepest
  pub left : Left p (add o p x y) exit placed
  pub signed : Signed negative (add o p x y)
  pub first_used : first ≡ limbs_used (top_exponent x y) depth x
  pub second_used : second ≡ limbs_used (top_exponent x y) depth y

-- where it is not left open
abbrev pub Attempts : Mode → ℕ → Operand → Operand → List ℕ → Option Attempt → Type 0
Attempts o p x y exit r = IfSome r (λ a. Attempted o p x y exit a.negative a.placed a.depth a.first a.second)

-- the same of all operands that are so held, where the first has that sign; the counts are in the caller's order
abbrev pub AttemptsInOrder : Mode → ℕ → Bool → Pair → Bool → List ℕ → List ℕ → List ℕ → Option Attempt → Type 0
AttemptsInOrder o p negative pair swapped first second exit r =
    IfSome r (λ a. (x y : Operand) → Holding x y pair first second → negative ≡ x.negative
    → Attempted o p x y exit a.negative a.placed a.depth (cond swapped a.second a.first) (cond swapped a.first a.second))

-- the sum of all operands that are so held, where the first has that sign, is answered, and stands in the target
abbrev pub Answers : Mode → ℕ → Bool → Pair → List ℕ → List ℕ → List ℕ → Placed → Type 0
Answers o p negative pair first second exit r = (x y : Operand) → Holding x y pair first second → negative ≡ x.negative → Left p (add o p x y) exit r
