-- The table of the decision: what k columns tell of the sum in each case, and the tests on it. Definitions only.
use Rattle.std.specs.Prelude.{ℕ, zero, suc, ◌+◌, ◌-◌, ◌%◌, ◌^◌, Bool, true, false, not, cond, ◌&&◌, ◌||◌, ltb, eqb}
use Rattle.std.specs.Bool.{beq}
use Rattle.std.specs.Float.Ieee.{size}
use Rattle.rounding.specs.Mode.{way, Way, near, under, over}
use Rattle.rounding.specs.declared.Mode.{Mode}
use Rattle.decide.specs.Class.{settled}
use Rattle.decide.specs.Range.{decided, or_large, or_small}

-- The least is `least` cut units, and some more if `least_more`; the greatest is `apart` units on, 0 or 1, and some more if `most_more`.
-- For the range: `half` says whether the least lies just half a unit above `least` units; below the cut the greatest has `tail` ones.
pub record Row : Type 0 where
  pub least : ℕ
  pub least_more : Bool
  pub half : Bool
  pub apart : ℕ
  pub most_more : Bool
  pub tail : ℕ

abbrev pub row : ℕ → Bool → Bool → ℕ → Bool → ℕ → Row
row n ml half i mg tail = record { least = n; least_more = ml; half = half; apart = i; most_more = mg; tail = tail }

abbrev pub some? : ℕ → Bool
some? zero = false
some? (suc u) = true

abbrev pub all_read : ℕ → ℕ → Bool
all_read u v = not (some? u || some? v)

-- x and y: the digits read, in cut units; u and v: how many are unread. Both reach into what is read, or y is 0.
-- Same signs: one tail alone carries nothing; two tails of one digit each reach the next unit and no further
unfoldable pub same_row : ℕ → ℕ → ℕ → ℕ → Row
same_row x u y zero = row (x + y) false false 0 true u
same_row x zero y (suc v) = row (x + y) false false 0 true (suc v)
same_row x (suc u) y (suc v) = row (x + y) false false 1 (some? u || some? v) 0

-- unlike signs, y < x
unfoldable pub unlike_row : ℕ → ℕ → ℕ → ℕ → Row
unlike_row x u y zero = row (x - y) false false 0 true u
unlike_row x u y (suc v) = row (x - y - 1) true false 1 (some? u) u

-- nothing of y is read: its first digit lies f digits below the cut, next to it where f is 0. x is unread: u of its digits
unfoldable pub far_same_row : ℕ → ℕ → ℕ → Row
far_same_row x u f = row x true (not (some? f)) (cond (ltb f u) 1 0) true 0

unfoldable pub far_unlike_row : ℕ → ℕ → ℕ → Row
far_unlike_row x u f = row (x - 1) true false 1 (some? (u - 1) || some? f) 0

-- the hole: x is read. Counted in units of y's first digit, x is z
unfoldable pub hole_same_row : ℕ → Row
hole_same_row z = row (z + 1) false false 0 true 0

unfoldable pub hole_unlike_row : ℕ → Row
hole_unlike_row z = row (z - 2) true false 1 false 0

-- the tests on a row: all; those that can hold where the sum is not too small, not too large, neither
abbrev pub decided_row : Way → ℕ → ℕ → Row → Bool
decided_row w p e r = decided w p e r.least r.least_more r.half r.apart r.most_more r.tail

abbrev pub large_row : Way → ℕ → ℕ → Row → Bool
large_row w p e r = or_large w p e r.least r.least_more r.half r.apart r.most_more

abbrev pub small_row : Way → ℕ → ℕ → Row → Bool
small_row w p e r = or_small w p e r.least r.least_more r.apart r.most_more r.tail

abbrev pub settled_row : Way → ℕ → Row → Bool
settled_row w p r = settled w p r.least r.least_more r.apart r.most_more

unfoldable pub same_signs : Way → ℕ → ℕ → ℕ → ℕ → ℕ → ℕ → Bool
same_signs w p e x u y v = all_read u v || large_row w p e (same_row x u y v)

unfoldable pub unlike_signs : Way → ℕ → ℕ → ℕ → ℕ → ℕ → ℕ → Bool
unlike_signs w p e x u y v = all_read u v || small_row w p e (unlike_row x u y v)

unfoldable pub far_same : Way → ℕ → ℕ → ℕ → ℕ → ℕ → Bool
far_same w p e x u f = large_row w p e (far_same_row x u f)

unfoldable pub far_unlike : Way → ℕ → ℕ → ℕ → ℕ → Bool
far_unlike w p x u f = settled_row w p (far_unlike_row x u f)

unfoldable pub hole_same : Way → ℕ → ℕ → ℕ → Bool
hole_same w p e z = decided_row w p e (hole_same_row z)

unfoldable pub hole_unlike : Way → ℕ → ℕ → ℕ → Bool
hole_unlike w p e z = decided_row w p e (hole_unlike_row z)

abbrev pub odd? : ℕ → Bool
odd? y = not (eqb (y % 2) 0)

-- the same without large numbers: `digits` is the size of z + 1, or of z - 2, and `odd` says whether z / 2 is odd
unfoldable pub hole? : Way → ℕ → ℕ → Bool → Bool
hole? near p digits odd = ltb (p + 1) digits || (eqb (p + 1) digits && odd)
hole? under p digits odd = ltb p digits
hole? over p digits odd = ltb p digits

-- ---- with the signs: x's is a, y's is b. The larger of unlike signs gives its own; equal read parts settle nothing while a digit is unread

unfoldable pub unlike_pair : Mode → ℕ → ℕ → Bool → ℕ → ℕ → ℕ → ℕ → Bool
unlike_pair o p e a x u y v =
    cond (ltb y x) (unlike_signs (way o a) p e x u y v)
    (cond (ltb x y) (unlike_signs (way o (not a)) p e y v x u) (all_read u v))

unfoldable pub seen_pair : Mode → ℕ → ℕ → Bool → Bool → ℕ → ℕ → ℕ → ℕ → Bool
seen_pair o p e a b x u y v = cond (beq a b) (same_signs (way o a) p e x u y v) (unlike_pair o p e a x u y v)

unfoldable pub far_pair : Mode → ℕ → ℕ → Bool → Bool → ℕ → ℕ → ℕ → Bool
far_pair o p e a b x u f = cond (beq a b) (far_same (way o a) p e x u f) (far_unlike (way o a) p x u f)

unfoldable pub hole_pair : Mode → ℕ → ℕ → Bool → Bool → ℕ → Bool
hole_pair o p e a b z = cond (beq a b) (hole_same (way o a) p e z) (hole_unlike (way o a) p e z)

-- z = m * 2 ^ suc f: x's digits are m, and its last stands f digits above y's first
unfoldable pub hole_by_size : Mode → ℕ → Bool → Bool → ℕ → ℕ → Bool
hole_by_size o p a b m f =
    let odd = odd? m && not (some? f) in
    let z = size m + f + 1 in
    cond (beq a b) (hole? (way o a) p z odd) (hole? (way o a) p (z - cond (eqb m (2 ^ (size m - 1))) 1 0) odd)
