-- The class test: do the least and the greatest sum round alike? On plain whole numbers. Definitions only.
-- The cut unit is the weight of the last digit read. The least sum is n cut units and perhaps some more, the greatest n + i units and perhaps some more.
use Prim.Native.Nat.{ℕ, suc, ◌+◌, ◌-◌, ◌*◌, ◌/◌, ◌%◌, ◌^◌, compare, Ordering}
use Rattle.std.specs.Prelude.{Bool, true, false, not, cond, ◌&&◌, ltb, leb, eqb}
use Rattle.std.specs.Float.Ieee.{size}
use Rattle.rounding.specs.Mode.{Way, near, under, over}

-- from the remainder r of a division by u, with quotient q, and whether more lies below r: the sign of selected - exact, on sizes
unfoldable pub tie : Bool → ℕ → Ordering → Ordering
tie more q Ordering.lt = Ordering.lt
tie true q Ordering.eq = Ordering.gt
tie false q Ordering.eq = cond (eqb (q % 2) 0) Ordering.lt Ordering.gt
tie more q Ordering.gt = Ordering.gt

unfoldable pub off : Way → ℕ → ℕ → ℕ → Bool → Ordering
off under q u r more = Ordering.lt
off over q u r more = Ordering.gt
off near q u r more = tie more q (compare (r * 2) u)

unfoldable pub lean : Way → ℕ → ℕ → ℕ → Bool → Ordering
lean w q u r more = cond (not more && eqb r 0) Ordering.eq (off w q u r more)

-- what is selected, in units
unfoldable pub step : Ordering → ℕ → ℕ
step Ordering.lt q = q
step Ordering.eq q = q
step Ordering.gt q = suc q

abbrev pub alike : Ordering → Ordering → Bool
alike Ordering.lt Ordering.lt = true
alike Ordering.eq Ordering.eq = true
alike Ordering.gt Ordering.gt = true
alike Ordering.lt Ordering.eq = false
alike Ordering.lt Ordering.gt = false
alike Ordering.eq Ordering.lt = false
alike Ordering.eq Ordering.gt = false
alike Ordering.gt Ordering.lt = false
alike Ordering.gt Ordering.eq = false

-- enough digits: p, and under nearest one more
unfoldable pub enough : Way → ℕ → ℕ → Bool
enough near p n = ltb p (size n)
enough under p n = leb p (size n)
enough over p n = leb p (size n)

-- the least sum is n units (and more, if ml), the greatest n + i (and more, if mg): do both round alike?
unfoldable pub settled : Way → ℕ → ℕ → Bool → ℕ → Bool → Bool
settled w p n ml i mg =
    let u = 2 ^ (size n - p) in
    enough w p n && (ltb (n % u + i) u && alike (lean w (n / u) u (n % u) ml) (lean w (n / u) u (n % u + i) mg))
