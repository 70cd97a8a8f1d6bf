-- The marked sums of document 01: P1 to P9 as rows, and how 0.d × 2 ^ e is written as an operand. Definitions only.
use Prim.Native.Nat.{ℕ, ◌+◌, ◌-◌, ◌*◌, ◌^◌, Ordering}
use Rattle.std.specs.Prelude.{false, List, [], ◌∷◌, ◌++◌}
use Rattle.numbers.specs.Limits.{bias}
use Rattle.numbers.specs.Operand.{Operand}
use Rattle.rounding.specs.declared.Mode.{Mode}
use Rattle.rounding.specs.Answer.{Answer, zero_of, number}
use Rattle.rounding.specs.Sum.{add, subtract}
use Rattle.rounding.specs.declared.Mode.TheVariants.{Nearest, Zeroward, Upward, Downward}

-- the exponents e and - e, counted
abbrev pub up : ℕ → ℕ
up e = bias + e

abbrev pub down : ℕ → ℕ
down e = bias - e

-- the operand 0.d × 2 ^ e, with q digits shown, in one limb
abbrev pub shown : ℕ → ℕ → ℕ → Operand
shown q d e = record { negative = false; is_zero = false; precision = q; exponent = e; limbs = d * 2 ^ (64 - q) ∷ [] }

-- the answer 0.d × 2 ^ e, with its ternary value
abbrev pub gives : ℕ → ℕ → Ordering → Answer
gives d e t = number false e d t

-- a sum or difference, its target precision, its mode, and its answer
pub record Row : Type 0 where
  pub operation : Mode → ℕ → Operand → Operand → Answer
  pub first : Operand
  pub second : Operand
  pub target : ℕ
  pub mode : Mode
  pub is : Answer

abbrev pub row : (Mode → ℕ → Operand → Operand → Answer) → Operand → Operand → ℕ → Answer → Mode → Row
row f x y p a o = record { operation = f; first = x; second = y; target = p; mode = o; is = a }

-- a row whose mode is "any"
abbrev pub any : (Mode → Row) → List Row
any f = f Nearest ∷ f Zeroward ∷ f Upward ∷ f Downward ∷ []

-- P1 to P9
unfoldable pub rows : List Row
rows =
    row add (shown 18 0b101010000010010001 (up 0)) (shown 5 0b10001 (down 9)) 4 (gives 0b1011 (up 0) Ordering.gt) Nearest
    ∷ row add (shown 18 0b101010000010010001 (up 0)) (shown 5 0b10001 (down 9)) 4 (gives 0b1010 (up 0) Ordering.lt) Downward
    ∷ row add (shown 12 0b101111100101 (up 0)) (shown 5 0b11010 (down 7)) 2 (gives 0b11 (up 0) Ordering.gt) Nearest
    ∷ any (row add (shown 12 0b101111100101 (up 0)) (shown 5 0b11011 (down 7)) 2 (gives 0b11 (up 0) Ordering.eq))
    ++ row add (shown 3 0b100 (up 0)) (shown 2 0b10 (down 2)) 2 (gives 0b10 (up 0) Ordering.lt) Nearest
    ∷ row add (shown 3 0b110 (up 0)) (shown 2 0b10 (down 2)) 2 (gives 0b10 (up 1) Ordering.gt) Nearest
    ∷ any (row add (shown 2 0b11 (up 0)) (shown 2 0b11 (up 0)) 2 (gives 0b11 (up 1) Ordering.eq))
    ++ any (row subtract (shown 2 0b10 (up 1)) (shown 4 0b1111 (up 0)) 2 (gives 0b10 (down 3) Ordering.eq))
    ++ any (row subtract (shown 2 0b10 (up 0)) (shown 2 0b10 (up 0)) 2 (zero_of false))
