-- What is told of two limbs in order. Definitions only.
use Rattle.std.specs.Prelude.{ℕ, ◌≡◌, Bool, cond, List, [], ◌∷◌}
use Rattle.numbers.specs.Operand.{Operand}
use Rattle.rounding.specs.declared.Mode.{Mode}
use Rattle.rounding.specs.Sum.{add}
use Rattle.place.specs.declared.Placed.{Placed}
use Rattle.settle.specs.declared.rows.Pair.{Pair}
use Rattle.descent.specs.Finishing.{Left}
use Rattle.wide.specs.declared.told.Attempt.{Attempt}
use Rattle.wide.specs.Filling.{Holding}
use Rattle.wide.specs.Attempted.{Attempted}

-- the sum of all operands that are so held is answered, and stands in the target
abbrev pub Answers : Mode → ℕ → Pair → ℕ → ℕ → Bool → List ℕ → Placed → Type 0
Answers o p pair u v negative exit r =
    (z w : Operand) → Holding z w pair (u ∷ []) (v ∷ []) → negative ≡ z.negative → Left p (add o p z w) exit r

-- the same with its depth, the counts in the order of the caller
abbrev pub Tells : Mode → ℕ → Pair → ℕ → ℕ → Bool → Bool → List ℕ → Attempt → Type 0
Tells o p pair u v negative swapped exit r =
    (z w : Operand) → Holding z w pair (u ∷ []) (v ∷ []) → negative ≡ z.negative
    → Attempted o p z w exit r.negative r.placed r.depth (cond swapped r.second r.first) (cond swapped r.first r.second)
