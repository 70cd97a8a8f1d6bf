-- Demand 3: the depth is the fewest columns, at least one, that fix the answer. Definitions only.
use Rattle.std.specs.Prelude.{ℕ, ◌-◌, ◌≤◌, ◌<◌, ◌≡◌, true, false, ◌&&◌}
use Rattle.numbers.specs.Operand.{Operand}
use Rattle.rounding.specs.declared.Mode.{Mode}
use Rattle.rounding.specs.Answer.{Answer}
use Rattle.rounding.specs.Sum.{add, subtract}
use Rattle.depth.specs.Columns.{top_exponent, Like}

pub data Operation : Type 0 where
  plus minus : Operation

-- the answer of demand 2
unfoldable pub result : Operation → Mode → ℕ → Operand → Operand → Answer
result plus o p x y = add o p x y
result minus o p x y = subtract o p x y

-- "every well-formed pair .. that agrees in those columns gets the same rounded number, ternary value or refusal"
unfoldable pub Fixed : Operation → Mode → ℕ → Operand → Operand → ℕ → Type 0
Fixed f o p x y k =
    (z w : Operand) → Like (top_exponent x y) k x z → Like (top_exponent x y) k y w → result f o p z w ≡ result f o p x y

-- "some pair gets another"
unfoldable pub Open : Operation → Mode → ℕ → Operand → Operand → ℕ → Type 0
Open f o p x y k =
    (z : Operand) × (w : Operand) × Like (top_exponent x y) k x z × Like (top_exponent x y) k y w × (result f o p z w ≡ result f o p x y → ⊥)

-- "the fewest columns, at least one, that fix the answer .. With one column fewer, where more than one is reported, some pair gets another."
pub record Deciding (f : Operation) (o : Mode) (p : ℕ) (x y : Operand) (k : ℕ) : Type 0 where
  pub one : 1 ≤ k
  pub fixed : Fixed f o p x y k
  pub fewer : 1 < k → Open f o p x y (k - 1)

-- "Two zeros have depth 0."
pub record Depth (f : Operation) (o : Mode) (p : ℕ) (x y : Operand) (k : ℕ) : Type 0 where
  pub zeros : (x.is_zero && y.is_zero) ≡ true → k ≡ 0
  pub deciding : (x.is_zero && y.is_zero) ≡ false → Deciding f o p x y k
