-- What the first column of two operands fixes, on the numbers that the code holds of them. Definitions only.
use Rattle.std.specs.Prelude.{ℕ, ◌+◌, ◌-◌, ◌^◌, ◌≤◌, ◌<◌, ◌≡◌, Bool, true, false, List, [], ◌∷◌, length, get_or}
use Rattle.numbers.specs.Limits.{least_precision, most_precision, least_exponent, most_exponent}
use Rattle.numbers.specs.Operand.{Operand}
use Rattle.rounding.specs.declared.Mode.{Mode}
use Rattle.rounding.specs.Sum.{add}
use Rattle.decide.specs.Decide.{decide_at}
use Rattle.place.specs.declared.Placed.{Placed}
use Rattle.settle.specs.declared.rows.Pair.{Pair}
use Rattle.bridge.specs.Verdict.{pair_of, Ordered}
use Rattle.descent.specs.Finishing.{Left}
use Rattle.reports.specs.Signed.{Signed}

-- the top limb of a number
unfoldable pub top_limb : List ℕ → ℕ
top_limb l = get_or l (length l - 1) 0

-- what the code holds of two regular operands in order: the pair, and the two top limbs
pub record Held (x y : Operand) (pair : Pair) (u v : ℕ) : Type 0 where
  pub ordered : Ordered x y
  pub regular : y.is_zero ≡ false
  pub pair_is : pair ≡ pair_of x y
  pub first_top : u ≡ top_limb x.limbs
  pub second_top : v ≡ top_limb y.limbs

-- what is asked of them: digits that one limb holds with two to spare, and a first limb with its first digit
pub record Facing (p : ℕ) (pair : Pair) (u : ℕ) : Type 0 where
  pub least : least_precision ≤ p
  pub most : p ≤ 62
  pub led : 2 ^ 63 ≤ u
  pub second_some : 0 < pair.second
  pub second_few : pair.second ≤ most_precision
  pub gap : pair.gap ≤ pair.top
  pub low : least_exponent ≤ pair.top
  pub high : pair.top ≤ most_exponent

-- of unlike signs, with all digits of both among the p first of the column: the difference is exact
pub record AllKept (p : ℕ) (pair : Pair) : Type 0 where
  pub unlike : pair.same ≡ false
  pub first : pair.first ≤ p
  pub second : pair.gap + pair.second ≤ p

-- the first column fixes the answer, which stands in one limb and has this sign
pub record Told (o : Mode) (p : ℕ) (x y : Operand) (negative : Bool) (limb : ℕ) (placed : Placed) : Type 0 where
  pub fixed : decide_at o p x y 1 ≡ true
  pub left : Left p (add o p x y) (limb ∷ []) placed
  pub signed : Signed negative (add o p x y)
