-- The number that is selected for a size m, a whole number. Definitions only.
-- Document 01, "Rounding" (002, section 2.2): the exponent is unbounded while selecting.
use Rattle.std.specs.Prelude.{ℕ, ◌+◌, ◌-◌, ◌*◌, ◌/◌, ◌^◌}
use Rattle.std.specs.Float.Ieee.{size}
use Rattle.std.specs.Float.Ieee.Nearest.{closest}
use Rattle.rounding.specs.Mode.{Way, near, under, over}

-- m / u as a whole number: the closest (`closest` takes a tie to the even one), the largest not above, the smallest not below
unfoldable pub quotient : Way → ℕ → ℕ → ℕ
quotient near m u = closest m u
quotient under m u = m / u
quotient over m u = (m + (u - 1)) / u

-- the multiple of the unit u that is selected for m
unfoldable pub on_grid : Way → ℕ → ℕ → ℕ
on_grid w u m = quotient w m u * u

-- the weight of the last of p digits of m (`size` counts the binary digits of m)
unfoldable pub unit : ℕ → ℕ → ℕ
unit p m = 2 ^ (size m - p)

-- the p-digit number that is selected for m
unfoldable pub chosen : Way → ℕ → ℕ → ℕ
chosen w p m = on_grid w (unit p m) m
