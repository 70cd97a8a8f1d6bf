-- What a front shows of the sum or difference D of the columns read, and one column more. Definitions only.
use Rattle.std.specs.Prelude.{Option, ℕ, suc, ◌+◌, ◌-◌, ◌*◌, ◌%◌, ◌^◌, ◌≤◌, ◌<◌, ◌≡◌, Bool, true, false}
use Rattle.limb.specs.Carry.{bit}
use Rattle.walk.specs.declared.state.Tail.{Tail}
use Rattle.walk.specs.declared.change.Change.{Change}
use Rattle.walk.specs.Change.{Moved}
use Rattle.walk.specs.Window.{TailIs}
use Rattle.walk.specs.Tail.{Unmixed}
use Rattle.front.specs.declared.showing.Front.{Front}

-- the first column with its carry
unfoldable pub first_of : Front → ℕ
first_of f = bit f.carry * 2 ^ 64 + f.limb

-- with t columns below the first it shows D
pub record ShowsFront (f : Front) (t D : ℕ) : Type 0 where
  pub rest : ℕ
  pub tail : TailIs f.tail t rest
  pub value : D ≡ first_of f * 2 ^ (64 * t) + rest

-- D is n, and t columns below it go on as its last digit does: zeros below an even number, ones below an odd one
pub record Kept (n t D : ℕ) : Type 0 where
  pub zeros : n % 2 ≡ 0 → D ≡ n * 2 ^ (64 * t)
  pub ones : n % 2 ≡ 1 → suc D ≡ suc n * 2 ^ (64 * t)

-- the first column is changed by one, where it has room for that, and stands above a tail
pub record Changed (carry : Bool) (limb : ℕ) (tail : Tail) (change : Option Change) (r : Front) : Type 0 where
  pub same_tail : r.tail ≡ tail
  pub first : (m : ℕ) → Moved change (bit carry * 2 ^ 64 + limb) m → m < 2 * 2 ^ 64 → first_of r ≡ m

-- D becomes m, and `low` stands below it
abbrev pub FrontGrown : Front → ℕ → Option Change → Front → Type 0
FrontGrown f low change r =
    (t D m : ℕ) → ShowsFront f t D → Unmixed f.tail → Moved change D m → m < 2 * 2 ^ (64 * suc t) → ShowsFront r (suc t) (m * 2 ^ 64 + low)

-- a column a of one operand and b of the other: added, or b taken off a
pub record Stepped (same : Bool) (f : Front) (a b : ℕ) (r : Front) : Type 0 where
  pub sum : same ≡ true → (t D : ℕ) → ShowsFront f t D → Unmixed f.tail → D * 2 ^ 64 + a + b < 2 * 2 ^ (64 * suc (suc t)) → ShowsFront r (suc t) (D * 2 ^ 64 + a + b)
  pub difference : same ≡ false → (t D : ℕ) → ShowsFront f t D → Unmixed f.tail → D < 2 * 2 ^ (64 * suc t) → b ≤ D * 2 ^ 64 + a → ShowsFront r (suc t) (D * 2 ^ 64 + a - b)
