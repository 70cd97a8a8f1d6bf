-- How much of an operand lies below the columns read. Definitions only.
use Rattle.std.specs.Prelude.{ℕ, ◌-◌, ◌*◌}
use Rattle.numbers.specs.Operand.{Operand}

-- how many of x's digits lie below the first k columns, where E is t
unfoldable pub unread : ℕ → ℕ → Operand → ℕ
unread t k x = x.precision - (64 * k - (t - x.exponent))
