-- Columns passed over, one more, and why it fixes the answer. Definitions only.
use Rattle.std.specs.Prelude.{ℕ, suc, ◌-◌, ◌*◌, ◌^◌, ◌≤◌, ◌<◌, ◌≡◌, ◌⊎◌, Bool, true, false, cond, not, ◌||◌, List, [], ◌∷◌, eqb}
use Rattle.std.specs.Float.Ieee.{size}
use Rattle.numbers.specs.Operand.{Operand}
use Rattle.walk.specs.declared.state.Tail.{Tail}
use Rattle.walk.specs.declared.state.Tail.TheVariants.{Mixed}
use Rattle.walk.specs.Window.{TailIs}
use Rattle.walk.specs.Tail.{Unmixed}
use Rattle.settle.specs.declared.rows.Pair.{Pair}
use Rattle.settle.specs.declared.rows.Row.{Row}
use Rattle.settle.specs.declared.rows.Row.TheVariants.{Exact, Plus, Minus}
use Rattle.settle.specs.Rows.{row_of}
use Rattle.bridge.specs.Verdict.{read_sum}
use Rattle.front.specs.declared.showing.Front.{Front}
use Rattle.front.specs.Front.{first_of, Kept, ShowsFront}
use Rattle.wide.specs.declared.filling.Filled.{Filled}
use Rattle.deep.specs.declared.reading.Reading.{Reading}

-- what is known of a sum, or of a difference, where both operands have more than a digit unread
unfoldable pub inner_row : Bool → Row
inner_row same = cond same (Plus false true true) (Minus true)

-- the tail of so many columns that go on as the last digit of the first does: zeros, or ones below an odd one
pub record KeptTail (odd : Bool) (columns : ℕ) (r : Tail) : Type 0 where
  pub zeros : odd ≡ false → TailIs r (columns - 1) 0
  pub ones : odd ≡ true → (s : ℕ) → suc s ≡ 2 ^ (64 * (columns - 1)) → TailIs r (columns - 1) s
  pub unmixed : Unmixed r

-- why k columns fix the answer: the first has more than p digits, and those below it are neither all zeros nor all ones, or nothing is unread
pub record Ends (p : ℕ) (pair : Pair) (front : Front) (k : ℕ) : Type 0 where
  pub long : p < size (first_of front)
  pub ends : (front.tail ≡ Mixed) ⊎ (row_of pair k ≡ Exact)

-- the columns before the last go on as the last digit of the first does
pub record ReadOn (p : ℕ) (pair : Pair) (stop : ℕ) (x y : Operand) (r : Reading) : Type 0 where
  pub some : 2 ≤ r.columns
  pub near : r.columns ≤ suc stop
  pub kept : Kept (read_sum x y 1) (r.columns - 2) (read_sum x y (r.columns - 1))
  pub shows : ShowsFront r.front (r.columns - 1) (read_sum x y r.columns)
  pub ends : r.fixed ≡ true → Ends p pair r.front r.columns
  pub goes_on : r.fixed ≡ false → Ends p pair r.front r.columns → ⊥

-- the first column stands in the target, with what is told of it
pub record FrontFilled (front : Front) (more : Bool) (depth : ℕ) (exit : List ℕ) (r : Filled) : Type 0 where
  pub limbs : exit ≡ front.limb ∷ []
  pub carry : r.carry ≡ front.carry
  pub guard : r.guard ≡ 0
  pub more_is : (t rest : ℕ) → TailIs front.tail t rest → r.more ≡ (more || not (eqb rest 0))
  pub depth_is : r.depth ≡ depth
