-- A carry, or a borrow, as a number. Definitions only.
-- Document 01, "Limbs": the carry out is 1 exactly when something was dropped.
use Rattle.std.specs.Prelude.{ℕ, Bool, true, false}

unfoldable pub bit : Bool → ℕ
bit true = 1
bit false = 0
