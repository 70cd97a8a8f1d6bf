-- The two operands that a pair lays out, by the sign of the larger and the limbs of each. Definitions only.
use Rattle.std.specs.Prelude.{ℕ, ◌-◌, Bool, false, List}
use Rattle.std.specs.Bool.{beq}
use Rattle.numbers.specs.Operand.{Operand}
use Rattle.settle.specs.declared.rows.Pair.{Pair}

abbrev pub larger_of : Bool → Pair → List ℕ → Operand
larger_of negative pair first = record { negative = negative; is_zero = false; precision = pair.first; exponent = pair.top; limbs = first }

-- of the same sign, or the other
abbrev pub other_of : Bool → Pair → List ℕ → Operand
other_of negative pair second = record { negative = beq pair.same negative; is_zero = false; precision = pair.second; exponent = pair.top - pair.gap; limbs = second }
