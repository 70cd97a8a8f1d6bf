-- The decision on two operands after k columns. Definitions only.
use Rattle.std.specs.Prelude.{ℕ, ◌+◌, ◌-◌, ◌*◌, ◌/◌, ◌^◌, Bool, cond, ◌||◌, ltb}
use Rattle.numbers.specs.Operand.{Operand, mantissa, last_weight}
use Rattle.rounding.specs.declared.Mode.{Mode}
use Rattle.rounding.specs.Sum.{scale}
use Rattle.depth.specs.Columns.{top_exponent}
use Rattle.depth.specs.Read.{unread}
use Rattle.decide.specs.Table.{some?, seen_pair, far_pair, hole_by_size}

-- does z reach into the columns read
unfoldable pub reaches? : ℕ → ℕ → Operand → Bool
reaches? t k z = z.is_zero || ltb (t - z.exponent) (64 * k)

-- its digits that are read; and these in cut units, s being the lowest weight present
unfoldable pub read_digits : ℕ → ℕ → Operand → ℕ
read_digits t k z = cond z.is_zero 0 (mantissa z / 2 ^ unread t k z)

unfoldable pub read_part : ℕ → ℕ → ℕ → Operand → ℕ
read_part t k s z = read_digits t k z * 2 ^ (unread t k z + (last_weight z - s) - (t - 64 * k - s))

unfoldable pub left_over : ℕ → ℕ → Operand → ℕ
left_over t k z = cond z.is_zero 0 (unread t k z)

-- x reaches into the columns read, and y does not
unfoldable pub beyond : Mode → ℕ → Operand → Operand → ℕ → ℕ → ℕ → Bool
beyond o p x y k t s =
    cond (some? (unread t k x))
    (far_pair o p (t - 64 * k - s + s) x.negative y.negative (read_part t k s x) (unread t k x) (t - 64 * k - y.exponent))
    (hole_by_size o p x.negative y.negative (read_digits t k x) (last_weight x - y.exponent))

unfoldable pub decide_at : Mode → ℕ → Operand → Operand → ℕ → Bool
decide_at o p x y k =
    let t = top_exponent x y in
    let s = scale x y in
    cond (reaches? t k x)
    (cond (reaches? t k y)
    (seen_pair o p (t - 64 * k - s + s) x.negative y.negative (read_part t k s x) (left_over t k x) (read_part t k s y) (left_over t k y))
    (beyond o p x y k t s))
    (beyond o p y x k t s)
