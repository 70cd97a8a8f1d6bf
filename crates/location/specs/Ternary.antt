-- The ternary value of an order. Definitions only.
use Prim.Native.Nat.{Ordering}
use Rattle.std.specs.Prelude.{ℤ, pos, negsuc}

-- "The ternary value is -1, 0 or 1"
unfoldable pub ternary_of : Ordering → ℤ
ternary_of Ordering.lt = negsuc 0
ternary_of Ordering.eq = pos 0
ternary_of Ordering.gt = pos 1
