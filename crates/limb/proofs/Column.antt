-- No column is one of base 1, and columns join: of sums, and of differences either way. Assumes nothing.
use mathlib.Core.Path.{ap}
use Prim.Native.Nat.{ℕ, ◌*◌}
use native.Mathlib.Omega.{arith}
use Rattle.limb.specs.Column.{Begins, Joins, Summed, Taken, TakenFrom}

pub summed_begins : Begins Summed
summed_begins k = omega arith

pub taken_begins : Begins Taken
taken_begins k = omega arith

pub taken_from_begins : Begins TakenFrom
taken_from_begins k = taken_begins k

pub summed_joins : Joins Summed
summed_joins P Q x y k s m u v t n low high = omega (arith, low, ap (λ (i : ℕ). P * i) high)

pub taken_joins : Joins Taken
taken_joins P Q x y k s m u v t n low high = omega (arith, low, ap (λ (i : ℕ). P * i) high)

pub taken_from_joins : Joins TakenFrom
taken_from_joins P Q x y k s m u v t n low high = taken_joins P Q y x k s m v u t n low high
