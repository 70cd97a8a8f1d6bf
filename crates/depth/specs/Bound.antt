-- How deep a sum can be at most. Definitions only.
use Rattle.std.specs.Prelude.{ℕ, ◌+◌, ◌-◌, ◌*◌, ◌/◌, max, cond, leb}
use Rattle.numbers.specs.Limits.{most_precision}
use Rattle.numbers.specs.Operand.{Operand}

-- ceil(n/64), the columns that n digits from column 0 on take; `limbs_for`, of the same formula, is how many limbs a number has
unfoldable pub columns_for : ℕ → ℕ
columns_for n = (n + 63) / 64

-- "k = ceil(max(m, p+2)/64), m the precision of the larger-exponent operand"
unfoldable pub far_columns : ℕ → ℕ → ℕ
far_columns p m = columns_for (max m (p + 2))

-- "With d the exponent difference .. d ≥ 64k gives depth at most k. Otherwise it is at most ceil(max(m, d+n)/64), with n the other's precision."
unfoldable pub bound_of : ℕ → ℕ → ℕ → ℕ → ℕ
bound_of p m n d = cond (leb (64 * far_columns p m) d) (far_columns p m) (columns_for (max m (d + n)))

-- "With a zero operand it is at most ceil(m/64)."
unfoldable pub bound : ℕ → Operand → Operand → ℕ
bound p x y =
    cond x.is_zero (columns_for y.precision)
    (cond y.is_zero (columns_for x.precision)
    (cond (leb y.exponent x.exponent)
    (bound_of p x.precision y.precision (x.exponent - y.exponent))
    (bound_of p y.precision x.precision (y.exponent - x.exponent))))

-- the most that `bound` can be: d is one less than 64k, and m, n and p are the largest precision
unfoldable pub deepest : ℕ
deepest = columns_for (64 * far_columns most_precision most_precision - 1 + most_precision)
