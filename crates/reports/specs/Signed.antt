-- The sign of an answer. Definitions only.
use Rattle.std.specs.Prelude.{◌<◌, ◌≡◌, Bool}
use Rattle.rounding.specs.Answer.{Answer, zero_of, number, too_large, too_small}

-- an answer of that sign, and a number's counted exponent is not 0
abbrev pub Signed : Bool → Answer → Type 0
Signed n (zero_of m) = m ≡ n
Signed n (number m e d t) = (m ≡ n) × (0 < e)
Signed n too_large = Unit {0}
Signed n too_small = Unit {0}
