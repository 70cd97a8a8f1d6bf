-- What a rounded value answers: the number with its ternary value, a zero, or a refusal. Definitions only.
use Prim.Native.Nat.{ℕ, ◌+◌, ◌-◌, ◌*◌, ◌/◌, ◌^◌, compare, Ordering}
use Rattle.std.specs.Prelude.{Bool, true, false, cond, ltb}
use Rattle.std.specs.Float.Ieee.{size}
use Rattle.numbers.specs.Limits.{least_exponent, most_exponent}
use Rattle.rounding.specs.Mode.{Way, way}
use Rattle.rounding.specs.declared.Mode.{Mode}
use Rattle.rounding.specs.Select.{chosen}

-- `zero_of negative`; `number negative exponent mantissa ternary`; refusals 6 and 7
pub data Answer : Type 0 where
  zero_of : Bool → Answer
  number : Bool → ℕ → ℕ → Ordering → Answer
  too_large too_small : Answer
  deriving Discrete as Answer-discrete

-- "If the selected exponent is then above or below its range, the call is refused (6 or 7)."
unfoldable pub ranged : ℕ → Answer → Answer
ranged e a = cond (ltb most_exponent e) too_large (cond (ltb e least_exponent) too_small a)

-- c, a p-digit number, as p digits of which the first is 1
unfoldable pub digits : ℕ → ℕ → ℕ
digits p c = c * 2 ^ p / 2 ^ size c

-- the order of two sizes, as that of the two numbers with one sign
unfoldable pub signed : Bool → Ordering → Ordering
signed false o = o
signed true Ordering.lt = Ordering.gt
signed true Ordering.eq = Ordering.eq
signed true Ordering.gt = Ordering.lt

-- the size m > 0 in units of 2 ^ s, with its sign. "The ternary value is .. the sign of selected minus exact."
unfoldable pub rounded : Way → ℕ → ℕ → Bool → ℕ → Answer
rounded w p s negative m =
    let c = chosen w p m in
    let e = size c + s in
    ranged e (number negative e (digits p c) (signed negative (compare c m)))

-- the exact value above - below, in units of 2 ^ s; `z` is the sign of a zero
unfoldable pub answer : Bool → Mode → ℕ → ℕ → ℕ → ℕ → Answer
answer z o p s above below =
    cond (ltb below above) (rounded (way o false) p s false (above - below))
    (cond (ltb above below) (rounded (way o true) p s true (below - above)) (zero_of z))
