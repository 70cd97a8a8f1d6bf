-- The order as it is found: signs, zeros, exponents, then limbs from the top. Definitions only.
use Prim.Native.Nat.{ℕ, ◌-◌, ◌*◌, ◌^◌, compare, Ordering}
use Rattle.std.specs.Prelude.{Bool, cond, ◌&&◌, List, ltb, length, get_or}
use Rattle.std.specs.Bool.{beq}
use Rattle.limb.specs.Value.{value_of}
use Rattle.numbers.specs.Operand.{Operand}

-- limb i from the top; below the lowest stands 0
unfoldable pub from_top : List ℕ → ℕ → ℕ
from_top l i = cond (ltb i (length l)) (get_or l (length l - 1 - i) 0) 0

-- two lists of limbs, padded at the bottom to a common length
unfoldable pub aligned_order : List ℕ → List ℕ → Ordering
aligned_order x y = compare (value_of x * (2 ^ 64) ^ length y) (value_of y * (2 ^ 64) ^ length x)

-- the first order where it decides, else the second
unfoldable pub or_else : Ordering → Ordering → Ordering
or_else Ordering.lt o = Ordering.lt
or_else Ordering.eq o = o
or_else Ordering.gt o = Ordering.gt

-- of two regular numbers without their signs
unfoldable pub regular_order : Operand → Operand → Ordering
regular_order x y = or_else (compare x.exponent y.exponent) (aligned_order x.limbs y.limbs)

-- of two numbers without their signs
unfoldable pub size_order : Operand → Operand → Ordering
size_order x y = cond x.is_zero (cond y.is_zero Ordering.eq Ordering.lt) (cond y.is_zero Ordering.gt (regular_order x y))

-- the order of the same two, the other way round
unfoldable pub reversed : Ordering → Ordering
reversed Ordering.lt = Ordering.gt
reversed Ordering.eq = Ordering.eq
reversed Ordering.gt = Ordering.lt

-- an order, turned round where so said
unfoldable pub reversed_if : Bool → Ordering → Ordering
reversed_if turn o = cond turn (reversed o) o

-- of two numbers of one sign: of two negative ones the larger in size is below
unfoldable pub same_order : Operand → Operand → Ordering
same_order x y = reversed_if x.negative (size_order x y)

-- of two numbers of different signs
unfoldable pub apart_order : Operand → Operand → Ordering
apart_order x y = cond (x.is_zero && y.is_zero) Ordering.eq (cond x.negative Ordering.lt Ordering.gt)

-- of any two
unfoldable pub signed_order : Operand → Operand → Ordering
signed_order x y = cond (beq x.negative y.negative) (same_order x y) (apart_order x y)
