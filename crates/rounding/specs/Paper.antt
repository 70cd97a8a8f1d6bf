-- The four modes as the paper and document 01 put them, on signed values: what is asked of the selected number, with no word on how it is found.
-- A value is a sign and a size: `n m` is - m where n is true, else m; the two zeros are one value. Definitions only.
use Prim.Native.Nat.{ℕ, ◌+◌, ◌-◌, ◌*◌, ◌%◌, ◌^◌, ◌≤◌, ◌<◌, compare, Ordering}
use Rattle.std.specs.Prelude.{◌≡◌, ◌⊎◌, Bool, true, false, not}
use Rattle.std.specs.Float.Ieee.{size}
use Rattle.numbers.specs.Operand.{Operand}
use Rattle.rounding.specs.declared.Mode.{Mode}
use Rattle.rounding.specs.Answer.{Answer, number, digits, signed}
use Rattle.rounding.specs.Sum.{share}
use Rattle.rounding.specs.declared.Mode.TheVariants as mode

-- a p-digit number: some digits, at most p of them, and a weight. "The exponent is unbounded while selecting."
pub record Rep (p n : ℕ) : Type 0 where
  pub digits : ℕ
  pub shift : ℕ
  pub few : digits < 2 ^ p
  pub is : n ≡ digits * 2 ^ shift

-- ± a ≤ ± b
abbrev pub Le : Bool → ℕ → Bool → ℕ → Type 0
Le false a false b = a ≤ b
Le false a true b = (a ≡ 0) × (b ≡ 0)
Le true a false b = Unit {0}
Le true a true b = b ≤ a

-- ± a and ± b are one value
abbrev pub Same : Bool → ℕ → Bool → ℕ → Type 0
Same n a t b = Le n a t b × Le t b n a

-- the distance of two whole numbers
abbrev pub dist : ℕ → ℕ → ℕ
dist a b = (a - b) + (b - a)

-- the distance of ± a and ± b
abbrev pub apart : Bool → ℕ → Bool → ℕ → ℕ
apart false a false b = dist a b
apart true a true b = dist a b
apart false a true b = a + b
apart true a false b = a + b

-- ---- the four modes: the exact value is n m, the selected one t c, and b k goes over all p-digit numbers

-- "Down selects the largest p-bit number not above the exact value"
pub record Down (p : ℕ) (n : Bool) (m : ℕ) (t : Bool) (c : ℕ) : Type 0 where
  pub fits : Rep p c
  pub not_above : Le t c n m
  pub largest : (b : Bool) (k : ℕ) → Rep p k → Le b k n m → Le b k t c

-- "up the smallest not below"
pub record Up (p : ℕ) (n : Bool) (m : ℕ) (t : Bool) (c : ℕ) : Type 0 where
  pub fits : Rep p c
  pub not_below : Le n m t c
  pub smallest : (b : Bool) (k : ℕ) → Rep p k → Le n m b k → Le t c b k

-- "toward zero the one of these nearer zero"
pub record ToZero (p : ℕ) (n : Bool) (m : ℕ) (t : Bool) (c : ℕ) : Type 0 where
  pub one : Down p n m t c ⊎ Up p n m t c
  pub nearer : (b : Bool) (k : ℕ) → Down p n m b k ⊎ Up p n m b k → c ≤ k

-- "nearest the closest; on a tie, bp = 0": if another value is as close, the last of the p digits is 0
pub record Nearest (p : ℕ) (n : Bool) (m : ℕ) (t : Bool) (c : ℕ) : Type 0 where
  pub fits : Rep p c
  pub closest : (b : Bool) (k : ℕ) → Rep p k → apart t c n m ≤ apart b k n m
  pub even : (b : Bool) (k : ℕ) → Rep p k → (Same b k t c → ⊥) → apart b k n m ≡ apart t c n m → digits p c % 2 ≡ 0

-- what a mode asks
abbrev pub Asks : Mode → ℕ → Bool → ℕ → Bool → ℕ → Type 0
Asks mode.Nearest = Nearest
Asks mode.Zeroward = ToZero
Asks mode.Upward = Up
Asks mode.Downward = Down

-- "The ternary value is -1, 0 or 1: the sign of selected minus exact": -1 where not exact ≤ selected, 1 where not selected ≤ exact
abbrev pub Sign : Ordering → Bool → ℕ → Bool → ℕ → Type 0
Sign Ordering.lt t c n m = Le n m t c → ⊥
Sign Ordering.eq t c n m = Same t c n m
Sign Ordering.gt t c n m = Le t c n m → ⊥

-- ---- the answer

-- "worth ± 0.b1 b2 .. bp × 2^e with b1 = 1": c, in units of 2 ^ s, as p digits d and an exponent e
pub record Written (p s c d e : ℕ) : Type 0 where
  pub first : 2 ^ (p - 1) ≤ d
  pub few : d < 2 ^ p
  pub worth : d * 2 ^ e ≡ c * 2 ^ (p + s)

-- the answer where c is selected for n m, in units of 2 ^ s, and accepted: its sign, exponent, digits and ternary value
abbrev pub kept : ℕ → ℕ → Bool → ℕ → ℕ → Answer
kept p s n m c = number n (size c + s) (digits p c) (signed n (compare c m))

-- x + y is n m in units of 2 ^ s: what has the sign n is m more than what has the other
abbrev pub Exact : ℕ → Operand → Operand → Bool → ℕ → Type 0
Exact s x y n m = share n s x + share n s y ≡ m + (share (not n) s x + share (not n) s y)
