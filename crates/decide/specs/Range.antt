-- The range test beside the class test: are both ends refused alike, by 6 or by 7? Definitions only.
use Prim.Native.Nat.{ℕ, suc, ◌+◌, ◌-◌, ◌/◌, ◌%◌, ◌^◌, Ordering}
use Rattle.std.specs.Prelude.{Bool, cond, ◌&&◌, ◌||◌, ltb, eqb}
use Rattle.std.specs.Float.Ieee.{size}
use Rattle.numbers.specs.Limits.{least_exponent, most_exponent}
use Rattle.rounding.specs.Mode.{Way, near, under, over}
use Rattle.decide.specs.Class.{lean, enough, settled}

-- q of p digits goes up to 2 ^ p
unfoldable pub bump : Ordering → ℕ → ℕ → ℕ
bump Ordering.lt p q = 0
bump Ordering.eq p q = 0
bump Ordering.gt p q = cond (eqb (suc q) (2 ^ p)) 1 0

-- is the number that is selected for n units (and more) longer than n by a digit, where there are enough digits
unfoldable pub carry : Way → ℕ → ℕ → Bool → ℕ
carry w p n more = let u = 2 ^ (size n - p) in bump (lean w (n / u) u (n % u) more) p (n / u)

-- else: the least lies at most half a unit above n; `half`: just a half. All ones can then go up only at a tie
unfoldable pub short_least : Way → ℕ → ℕ → Bool → ℕ
short_least near p n half = cond (half && eqb (suc n) (2 ^ p)) 1 0
short_least under p n half = 0
short_least over p n half = 0

-- else: the greatest has n and then `tail` ones
unfoldable pub short_most : Way → ℕ → ℕ → ℕ → ℕ
short_most under p n tail = 0
short_most near p n tail = cond (eqb (suc n) (2 ^ size n) && ltb p (size n + tail)) 1 0
short_most over p n tail = cond (eqb (suc n) (2 ^ size n) && ltb p (size n + tail)) 1 0

-- the cut unit is 2 ^ e
unfoldable pub large? : Way → ℕ → ℕ → ℕ → Bool → Bool → Bool
large? w p e n ml half = ltb most_exponent (size n + cond (enough w p n) (carry w p n ml) (short_least w p n half) + e)

unfoldable pub small? : Way → ℕ → ℕ → ℕ → Bool → ℕ → Bool
small? w p e n mg tail = ltb (size n + cond (enough w p n) (carry w p n mg) (short_most w p n tail) + e) least_exponent

unfoldable pub decided : Way → ℕ → ℕ → ℕ → Bool → Bool → ℕ → Bool → ℕ → Bool
decided w p e n ml half i mg tail = settled w p n ml i mg || (large? w p e n ml half || small? w p e (n + i) mg tail)

-- where the sum cannot be too small; where it cannot be too large unless settled
unfoldable pub or_large : Way → ℕ → ℕ → ℕ → Bool → Bool → ℕ → Bool → Bool
or_large w p e n ml half i mg = settled w p n ml i mg || large? w p e n ml half

unfoldable pub or_small : Way → ℕ → ℕ → ℕ → Bool → ℕ → Bool → ℕ → Bool
or_small w p e n ml i mg tail = settled w p n ml i mg || small? w p e (n + i) mg tail
