-- The order of two numbers, and what a comparison answers. Definitions only.
-- Document 01: "compare (−1, 0, 1; the two zeros are equal)".
use Prim.Native.Nat.{ℕ, ◌+◌, compare, Ordering}
use Rattle.std.specs.Prelude.{true, false, List, ℤ, pos, negsuc, Result}
use Rattle.std.specs.declared.cmp.Ordering.{Ordering as Order}
use Rattle.std.specs.declared.cmp.Ordering.TheVariants.{Less, Equal, Greater}
use Rattle.numbers.specs.Operand.{Operand}
use Rattle.rounding.specs.Sum.{scale, share}
use Rattle.checks.specs.declared.Number.{Number}
use Rattle.checks.specs.declared.Refusal.{Refusal}
use Rattle.checks.specs.Number.{operand_of}
use Rattle.checks.specs.Check.{compared_refusal, answered}

-- the sign of x - y, in whole numbers: what is positive in it against what is negative
unfoldable pub order_of : Operand → Operand → Ordering
order_of x y =
    compare (share false (scale x y) x + share true (scale x y) y) (share true (scale x y) x + share false (scale x y) y)

-- the answer's case for each order
unfoldable pub case_of : Ordering → Order
case_of Ordering.lt = Less
case_of Ordering.eq = Equal
case_of Ordering.gt = Greater

-- document 01's number for each case
unfoldable pub number_of : Order → ℤ
number_of Less = negsuc 0
number_of Equal = pos 0
number_of Greater = pos 1

-- "compare (−1, 0, 1 ..)": the sign of x - y as a number
unfoldable pub sign_of : Ordering → ℤ
sign_of Ordering.lt = negsuc 0
sign_of Ordering.eq = pos 0
sign_of Ordering.gt = pos 1

-- "Comparing and converting check 1 to 5 as far as they have those arguments"
unfoldable pub compared_of : Number → List ℕ → Number → List ℕ → Result Order Refusal
compared_of x xl y yl =
    let a = operand_of x xl in
    let b = operand_of y yl in
    answered (compared_refusal a b) (case_of (order_of a b))
