-- The answer from what is read, where the decision holds. Definitions only.
use Rattle.std.specs.Prelude.{ℕ, ◌+◌, ◌-◌, ◌*◌, ◌/◌, ◌%◌, ◌^◌, Bool, not, cond, ltb, eqb}
use Rattle.std.specs.Bool.{beq}
use Rattle.std.specs.Float.Ieee.{size}
use Rattle.numbers.specs.Operand.{Operand, last_weight}
use Rattle.rounding.specs.Mode.{way, Way}
use Rattle.rounding.specs.declared.Mode.{Mode}
use Rattle.rounding.specs.Answer.{Answer, zero_of, number, rounded, too_large, too_small, ranged, signed}
use Rattle.rounding.specs.Sum.{scale, zero_sign}
use Rattle.depth.specs.Columns.{top_exponent}
use Rattle.depth.specs.Read.{unread}
use Rattle.decide.specs.Class.{lean, step, settled}
use Rattle.decide.specs.Range.{carry, large?}
use Rattle.decide.specs.Table.{Row, some?, all_read, same_row, unlike_row, far_same_row, far_unlike_row, hole_same_row, hole_unlike_row}
use Rattle.decide.specs.Decide.{reaches?, read_digits, read_part, left_over}

-- once settled: q or q + 1, and where that is 2 ^ p, its half and the next exponent
unfoldable pub settled_answer : Way → ℕ → ℕ → Bool → ℕ → Bool → Answer
settled_answer w p e g n ml =
    let u = 2 ^ (size n - p) in
    let d = lean w (n / u) u (n % u) ml in
    let m = step d (n / u) in
    let c = size n + carry w p n ml + e in
    ranged c (number g c (cond (eqb m (2 ^ p)) (2 ^ (p - 1)) m) (signed g d))

-- else refused
unfoldable pub decided_answer : Way → ℕ → ℕ → Bool → ℕ → Bool → Bool → ℕ → Bool → Answer
decided_answer w p e g n ml half i mg = cond (settled w p n ml i mg) (settled_answer w p e g n ml) (cond (large? w p e n ml half) too_large too_small)

abbrev pub answer_row : Way → ℕ → ℕ → Bool → Row → Answer
answer_row w p e g r = decided_answer w p e g r.least r.least_more r.half r.apart r.most_more

unfoldable pub same_answer : Way → ℕ → ℕ → Bool → ℕ → ℕ → ℕ → ℕ → Answer
same_answer w p e g x u y v = cond (all_read u v) (rounded w p e g (x + y)) (answer_row w p e g (same_row x u y v))

unfoldable pub unlike_answer : Way → ℕ → ℕ → Bool → ℕ → ℕ → ℕ → ℕ → Answer
unlike_answer w p e g x u y v = cond (all_read u v) (rounded w p e g (x - y)) (answer_row w p e g (unlike_row x u y v))

-- `neg` is the sign of a zero
unfoldable pub unlike_pair_answer : Bool → Mode → ℕ → ℕ → Bool → ℕ → ℕ → ℕ → ℕ → Answer
unlike_pair_answer neg o p e a x u y v =
    cond (ltb y x) (unlike_answer (way o a) p e a x u y v)
    (cond (ltb x y) (unlike_answer (way o (not a)) p e (not a) y v x u) (zero_of neg))

unfoldable pub seen_answer : Bool → Mode → ℕ → ℕ → Bool → Bool → ℕ → ℕ → ℕ → ℕ → Answer
seen_answer neg o p e a b x u y v = cond (beq a b) (same_answer (way o a) p e a x u y v) (unlike_pair_answer neg o p e a x u y v)

unfoldable pub far_answer : Mode → ℕ → ℕ → Bool → Bool → ℕ → ℕ → ℕ → Answer
far_answer o p e a b x u f = cond (beq a b) (answer_row (way o a) p e a (far_same_row x u f)) (answer_row (way o a) p e a (far_unlike_row x u f))

unfoldable pub hole_answer : Mode → ℕ → ℕ → Bool → Bool → ℕ → Answer
hole_answer o p e a b z = cond (beq a b) (answer_row (way o a) p e a (hole_same_row z)) (answer_row (way o a) p e a (hole_unlike_row z))

unfoldable pub beyond_answer : Mode → ℕ → Operand → Operand → ℕ → ℕ → ℕ → Answer
beyond_answer o p x y k t s =
    cond (some? (unread t k x))
    (far_answer o p (t - 64 * k - s + s) x.negative y.negative (read_part t k s x) (unread t k x) (t - 64 * k - y.exponent))
    (hole_answer o p (y.exponent - 1) x.negative y.negative (read_digits t k x * 2 ^ (last_weight x - (y.exponent - 1))))

unfoldable pub answer_at : Mode → ℕ → Operand → Operand → ℕ → Answer
answer_at o p x y k =
    let t = top_exponent x y in
    let s = scale x y in
    cond (reaches? t k x)
    (cond (reaches? t k y)
    (seen_answer (zero_sign o x.negative y.negative) o p (t - 64 * k - s + s) x.negative y.negative (read_part t k s x) (left_over t k x) (read_part t k s y) (left_over t k y))
    (beyond_answer o p x y k t s))
    (beyond_answer o p y x k t s)
