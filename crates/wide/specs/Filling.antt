-- A sum read at once into a target: what is held of the operands, and what then stands there. Definitions only.
use Rattle.std.specs.Prelude.{ℕ, ◌+◌, ◌-◌, ◌*◌, ◌≤◌, ◌<◌, ◌≡◌, Bool, true, false, List, length, get_or, Option, IfSome}
use Rattle.numbers.specs.Operand.{Operand}
use Rattle.rounding.specs.Mode.{way}
use Rattle.rounding.specs.declared.Mode.{Mode}
use Rattle.rounding.specs.Answer.{rounded}
use Rattle.rounding.specs.Sum.{add}
use Rattle.depth.specs.Bound.{deepest}
use Rattle.decide.specs.Decide.{decide_at}
use Rattle.place.specs.Placed.{run_number}
use Rattle.settle.specs.declared.rows.Pair.{Pair}
use Rattle.walk.specs.declared.state.Window.{Window}
use Rattle.leap.specs.Leap.{Leapt}
use Rattle.bridge.specs.Verdict.{pair_of, read_sum}
use Rattle.descent.specs.Course.{Course, Prompt}
use Rattle.wide.specs.declared.filling.Filled.{Filled}

-- what the code holds of two regular operands in order, the first larger from the first column on where their signs are unlike
pub record Holding (x y : Operand) (pair : Pair) (first second : List ℕ) : Type 0 where
  pub course : Course x y 0
  pub regular : y.is_zero ≡ false
  pub pair_is : pair ≡ pair_of x y
  pub first_is : first ≡ x.limbs
  pub second_is : second ≡ y.limbs

-- some operands are so held
pub record Offered (pair : Pair) (first second : List ℕ) : Type 0 where
  pub larger : Operand
  pub other : Operand
  pub holding : Holding larger other pair first second

-- the answer is fixed by so many columns and by no fewer, and it is the run carry | exit | guard | more, rounded
pub record Rounds (o : Mode) (p : ℕ) (x y : Operand) (exit : List ℕ) (carry : Bool) (guard : ℕ) (more : Bool) (depth : ℕ) : Type 0 where
  pub some : 1 ≤ depth
  pub near : depth ≤ deepest
  pub fixed : decide_at o p x y depth ≡ true
  pub first : 1 < depth → decide_at o p x y (depth - 1) ≡ false
  pub answer : add o p x y ≡ rounded (way o x.negative) p (x.exponent - 64 * (length exit + 1) - 1) x.negative (run_number carry exit guard more)
  pub led : carry ≡ false → 0 < get_or exit (length exit - 1) 0

-- where it is not left open
abbrev pub Fills : ℕ → Pair → List ℕ → List ℕ → List ℕ → Option Filled → Type 0
Fills p pair first second exit r =
    IfSome r (λ f. (o : Mode) (x y : Operand) → Holding x y pair first second → Rounds o p x y exit f.carry f.guard f.more f.depth)

-- the same under one mode, of a sum of that sign; how many columns fix it, and that it has a first digit, hold under any
abbrev pub FillsBy : Mode → Bool → ℕ → Pair → List ℕ → List ℕ → List ℕ → Option Filled → Type 0
FillsBy o negative p pair first second exit r =
    IfSome r (λ f. (f.depth ≤ deepest)
    × (f.carry ≡ false → 0 < get_or exit (length exit - 1) 0)
    × ((x y : Operand) → Holding x y pair first second → negative ≡ x.negative → Rounds o p x y exit f.carry f.guard f.more f.depth))

-- the columns that fill the target are read, and their carry
pub record Promptly (pair : Pair) (first second before after : List ℕ) (w : Window) (carry : Bool) : Type 0 where
  pub prompt : Prompt pair (length first) (length second) 0 (length before)
  pub filled : (x y : Operand) → Course x y 0 → pair ≡ pair_of x y → first ≡ x.limbs → (y.is_zero ≡ false → second ≡ y.limbs) → Leapt 0 (0 + length before) (read_sum x y (0 + length before)) before after w
  pub size : length after ≡ length before
  pub carry_is : w.carry ≡ carry
