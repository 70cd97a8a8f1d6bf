-- The course of a walk, and what is known where it stops. Definitions only.
use Rattle.std.specs.Prelude.{is_some}
use Rattle.std.specs.Prelude.{ℕ, suc, ◌+◌, ◌-◌, ◌*◌, ◌%◌, ◌^◌, ◌≤◌, ◌<◌, ◌≡◌, Bool, true, false, cond, List, ltb, length}
use Rattle.std.specs.Float.Ieee.{size}
use Rattle.limb.specs.Carry.{bit}
use Rattle.numbers.specs.Limits.{least_exponent, most_exponent}
use Rattle.numbers.specs.Operand.{Operand}
use Rattle.rounding.specs.Mode.{way}
use Rattle.rounding.specs.declared.Mode.{Mode}
use Rattle.rounding.specs.Answer.{too_large, too_small, rounded}
use Rattle.rounding.specs.Sum.{add}
use Rattle.depth.specs.Bound.{deepest}
use Rattle.decide.specs.Class.{enough}
use Rattle.decide.specs.Decide.{decide_at}
use Rattle.columns.specs.Column.{read_to}
use Rattle.walk.specs.Window.{shown_columns, Fits, Shows}
use Rattle.walk.specs.Tail.{Unmixed}
use Rattle.walk.specs.declared.state.Window.{Window}
use Rattle.settle.specs.Ways.{theory_way}
use Rattle.settle.specs.Rows.{Modest}
use Rattle.settle.specs.declared.rows.Pair.{Pair}
use Rattle.settle.specs.declared.rows.Way as code
use Rattle.bridge.specs.Verdict.{pair_of, Ordered, Leads, read_sum, hole_way}
use Rattle.descent.specs.declared.going.Verdict.{Verdict}
use Rattle.descent.specs.declared.going.Verdict.TheVariants.{Open, Fixed, InHole, Refused}
use Rattle.descent.specs.declared.going.Walked.{Walked}

-- two regular operands in order, or one alone, and the column where the walk begins: a sum's is the first; before a difference's the operands are alike, and there the first is larger
pub record Course (x y : Operand) (from : ℕ) : Type 0 where
  pub ordered : Ordered x y
  pub sum : (pair_of x y).same ≡ true → from ≡ 0
  pub level : (pair_of x y).same ≡ false → read_to from (pair_of x y).gap y.limbs ≡ read_to from 0 x.limbs
  pub larger : (pair_of x y).same ≡ false → read_to (suc from) (pair_of x y).gap y.limbs < read_to (suc from) 0 x.limbs
  pub near : from ≤ deepest

-- what a verdict after k columns says of the sum D of what is read; its last digit has the weight 2 ^ (E - 64 k)
abbrev pub Judged : Mode → ℕ → Operand → Operand → ℕ → Verdict → Type 0
Judged o p x y k Open = decide_at o p x y k ≡ false
Judged o p x y k (Fixed more) =
    (decide_at o p x y k ≡ true)
    × (add o p x y ≡ rounded (way o x.negative) p (x.exponent - 64 * k - 1) x.negative (2 * read_sum x y k + bit more))
    × (more ≡ true → enough (way o x.negative) p (read_sum x y k) ≡ true)
Judged o p x y k InHole =
    (decide_at o p x y k ≡ true)
    × ((b : ℕ) → p + 1 < 64 * k + 64 * b → 64 * k + 64 * b + 1 ≤ x.exponent
    → add o p x y ≡ rounded (hole_way (way o x.negative) p (pair_of x y)) p (x.exponent - 64 * k - 64 * b - 1) x.negative
    (cond (pair_of x y).same (2 * (read_sum x y k * 2 ^ (64 * b)) + 1) (2 * (read_sum x y k * 2 ^ (64 * b)) - 1)))
Judged o p x y k (Refused rule) =
    (decide_at o p x y k ≡ true) × (rule ≡ cond (pair_of x y).same 6 7) × (add o p x y ≡ cond (pair_of x y).same too_large too_small)

-- the walk stopped at the first column that fixes the answer
pub record Stopped (o : Mode) (p : ℕ) (x y : Operand) (r : Walked) (target : List ℕ) : Type 0 where
  pub some : 1 ≤ r.columns
  pub near : r.columns ≤ deepest
  pub judged : Judged o p x y r.columns r.verdict
  pub fixed : decide_at o p x y r.columns ≡ true
  pub first : 1 < r.columns → decide_at o p x y (r.columns - 1) ≡ false
  pub shows : Shows r.window target r.columns (read_sum x y r.columns)

-- what the code holds of the operands
pub record Held (o : Mode) (x y : Operand) (toward : code.Way) (pair : Pair) (first second : List ℕ) : Type 0 where
  pub pair_is : pair ≡ pair_of x y
  pub first_is : first ≡ x.limbs
  pub second_is : y.is_zero ≡ false → second ≡ y.limbs
  pub way_is : theory_way toward ≡ way o x.negative

-- a walk begins
pub record Begun (toward : code.Way) (pair : Pair) (first second : List ℕ) (from : ℕ) : Type 0 where
  pub mode : Mode
  pub larger : Operand
  pub other : Operand
  pub held : Held mode larger other toward pair first second
  pub course : Course larger other from

-- a walk goes on after k columns: they fix nothing
pub record Going (o : Mode) (p : ℕ) (x y : Operand) (w : Window) (target : List ℕ) (k : ℕ) : Type 0 where
  pub ordered : Ordered x y
  pub leads : Leads x y (suc k)
  pub near : k < deepest
  pub undecided : 1 ≤ k → decide_at o p x y k ≡ false
  pub sum : (pair_of x y).same ≡ true → w.skipped ≡ 0
  pub unmixed : Unmixed w.tail
  pub shows : Shows w target k (read_sum x y k)

-- a column later
pub record Reached (x y : Operand) (w : Window) (target : List ℕ) (k : ℕ) : Type 0 where
  pub ordered : Ordered x y
  pub leads : Leads x y k
  pub some : 1 ≤ k
  pub near : k ≤ deepest
  pub sum : (pair_of x y).same ≡ true → w.skipped ≡ 0
  pub shows : Shows w target k (read_sum x y k)

-- some operands are so
pub record Underway (p : ℕ) (toward : code.Way) (pair : Pair) (first second : List ℕ) (w : Window) (target : List ℕ) (k : ℕ) : Type 0 where
  pub mode : Mode
  pub larger : Operand
  pub other : Operand
  pub held : Held mode larger other toward pair first second
  pub going : Going mode p larger other w target k

pub record Arrived (toward : code.Way) (pair : Pair) (first : List ℕ) (w : Window) (target : List ℕ) (k : ℕ) : Type 0 where
  pub mode : Mode
  pub larger : Operand
  pub other : Operand
  pub held : Held mode larger other toward pair first other.limbs
  pub reached : Reached larger other w target k

-- the same with what is held of both, where one column fewer fixes nothing
pub record Arriving (p : ℕ) (toward : code.Way) (pair : Pair) (first second : List ℕ) (w : Window) (target : List ℕ) (k : ℕ) : Type 0 where
  pub mode : Mode
  pub larger : Operand
  pub other : Operand
  pub held : Held mode larger other toward pair first second
  pub reached : Reached larger other w target k

-- no refusal is near after n columns
pub record Inland (pair : Pair) (n : ℕ) : Type 0 where
  pub high : pair.same ≡ true → ltb most_exponent (pair.top + 2) ≡ false
  pub low : pair.same ≡ false → ltb (pair.top + 1) (least_exponent + 64 * n) ≡ false

-- the columns that fill a target of n limbs, from one on, end within both operands, and no refusal is near
pub record Prompt (pair : Pair) (first second from n : ℕ) : Type 0 where
  pub first_long : from + n ≤ first
  pub second_long : 0 < pair.second → (second ≤ 2 ^ 20) × (64 * (from + n - 1) ≤ 64 * second + pair.gap)
  pub inland : Inland pair (from + n - 1)

-- what is asked to see that
pub record Sighted (pair : Pair) (first from n : ℕ) : Type 0 where
  pub some : 0 < n
  pub target : n ≤ 2 ^ 20
  pub first_few : first ≤ 2 ^ 20
  pub near : from ≤ 2 ^ 19
  pub gap : pair.gap ≤ 2 ^ 42
  pub top : pair.top ≤ 2 ^ 42
  pub alone : pair.second ≡ 0 → pair.same ≡ true
  pub sum : pair.same ≡ true → from ≡ 0

-- a target full to the last limb, and nothing read below it
pub record Full (w : Window) (target : List ℕ) : Type 0 where
  pub fits : Fits w target
  pub filled : w.filled ≡ length target
  pub unguarded : is_some w.guard ≡ false

-- D has more than p digits, and what is below them lies inside a half, with a unit to spare above
pub record Inside (p D : ℕ) : Type 0 where
  pub longer : p < size D
  pub some : 1 ≤ D % 2 ^ (size D - p - 1)
  pub below : D % 2 ^ (size D - p - 1) + 1 < 2 ^ (size D - p - 1)

-- what the tests ask of a pair and a window after k columns
pub record Measured (pair : Pair) (w : Window) (target : List ℕ) (k : ℕ) : Type 0 where
  pub modest : Modest pair k
  pub fits : Fits w target
  pub columns : w.skipped + shown_columns w ≤ k
  pub other : pair.same ≡ false → 0 < pair.second

-- and of what is read: it is no nothing, and a sum carries out by one at most
pub record Moderate (pair : Pair) (k D : ℕ) : Type 0 where
  pub some : 0 < D
  pub sum : pair.same ≡ true → D < 2 * 2 ^ (64 * k)

-- the verdict where the class test does not settle it, and where it may
unfoldable pub refused_as : Pair → Bool → Verdict
refused_as s refused = cond refused (Refused (cond s.same 6 7)) Open

unfoldable pub verdict_as : Pair → Bool → Bool → Bool → Verdict
verdict_as s settled more refused = cond settled (Fixed more) (refused_as s refused)

-- is a verdict none yet
unfoldable pub open? : Verdict → Bool
open? Open = true
open? (Fixed more) = false
open? InHole = false
open? (Refused rule) = false
