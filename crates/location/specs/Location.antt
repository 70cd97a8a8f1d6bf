-- Where the part below the last kept digit lies, and what each way makes of it. Definitions only.
use Prim.Native.Nat.{ℕ, zero, suc, ◌*◌, compare, Ordering}
use Rattle.std.specs.Prelude.{Bool, true, false}
use Rattle.rounding.specs.Mode.{Way, near, under, over}
use Rattle.location.specs.declared.Location.{Location}
use Rattle.location.specs.declared.Location.TheVariants.{Exact, Lower, Tie, Upper}

-- by the order of twice the rest and the unit
unfoldable pub from_middle : Ordering → Location
from_middle Ordering.lt = Lower
from_middle Ordering.eq = Tie
from_middle Ordering.gt = Upper

-- of a rest below a unit u
unfoldable pub location_of : ℕ → ℕ → Location
location_of zero u = Exact
location_of (suc x) u = from_middle (compare (suc x * 2) u)

-- whether a way takes what is not exact to the next unit, wherever it lies
unfoldable pub goes_out : Way → Bool
goes_out near = false
goes_out under = false
goes_out over = true

-- whether the last unit is added; "on a tie, bp = 0"
unfoldable pub goes_up : Way → Location → Bool → Bool
goes_up w Exact odd = false
goes_up near Lower odd = false
goes_up near Tie odd = odd
goes_up near Upper odd = true
goes_up under Lower odd = false
goes_up under Tie odd = false
goes_up under Upper odd = false
goes_up over Lower odd = true
goes_up over Tie odd = true
goes_up over Upper odd = true

-- what is not exact is below the selected number where the last unit was added, and else above it
unfoldable pub inexact : Bool → Ordering
inexact true = Ordering.gt
inexact false = Ordering.lt

-- the order of what is selected and the exact size
unfoldable pub side : Location → Bool → Ordering
side Exact up = Ordering.eq
side Lower up = inexact up
side Tie up = inexact up
side Upper up = inexact up
