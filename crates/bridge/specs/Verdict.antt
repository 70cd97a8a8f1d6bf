-- The decision and the answer on the numbers that the walk holds. Definitions only.
use Rattle.std.specs.Prelude.{ℕ, ◌+◌, ◌-◌, ◌*◌, ◌≤◌, ◌<◌, ◌≡◌, Bool, true, false, not, cond, ◌&&◌, ◌||◌, ltb, eqb}
use Rattle.limb.specs.Carry.{bit}
use Rattle.numbers.specs.Operand.{Operand, mantissa, WellFormed}
use Rattle.rounding.specs.Mode.{Way, way, near, under, over}
use Rattle.rounding.specs.declared.Mode.{Mode}
use Rattle.decide.specs.Class.{settled}
use Rattle.decide.specs.Range.{large?, small?}
use Rattle.decide.specs.Table.{hole_by_size}
use Rattle.columns.specs.Column.{read_to}
unfoldable pub use Rattle.bounds.specs.Ends.{is_far, open_digits}
use Rattle.settle.specs.declared.rows.Pair.{Pair}
use Rattle.settle.specs.declared.rows.Row.{Row}
use Rattle.settle.specs.declared.rows.Row.TheVariants.{Exact, Plus, Minus, Hole}

-- the pair of two regular operands, the first of which has the larger exponent, or of one operand alone
unfoldable pub pair_of : Operand → Operand → Pair
pair_of x y = record { same = cond y.is_zero true (cond x.negative y.negative (not y.negative)); first = x.precision; second = cond y.is_zero 0 y.precision; gap = cond y.is_zero 0 (x.exponent - y.exponent); top = x.exponent }

-- the operands of such a pair
pub record Ordered (x y : Operand) : Type 0 where
  pub first : WellFormed x
  pub second : WellFormed y
  pub regular : x.is_zero ≡ false
  pub order : y.is_zero ≡ false → y.exponent ≤ x.exponent

-- of unlike signs, the first has the larger read part
abbrev pub Leads : Operand → Operand → ℕ → Type 0
Leads x y k = (pair_of x y).same ≡ false → read_to k (pair_of x y).gap y.limbs < read_to k 0 x.limbs

-- what is read of the sum, or of the difference where the first operand is the larger
unfoldable pub read_sum : Operand → Operand → ℕ → ℕ
read_sum x y k =
    let s = pair_of x y in
    let a = read_to k 0 x.limbs in
    let b = cond y.is_zero 0 (read_to k s.gap y.limbs) in
    cond s.same (a + b) (a - b)

-- does the class test settle it: D is what is read
unfoldable pub settled_by : Way → ℕ → ℕ → Row → Bool
settled_by w p D Exact = true
settled_by w p D (Plus least next most) = settled w p D least (bit next) most
settled_by w p D (Minus most) = settled w p (D - 1) true 1 most
settled_by w p D Hole = false

-- does the range test: a sum too large, a difference too small
unfoldable pub refused_by : Way → ℕ → Pair → ℕ → ℕ → Bool
refused_by w p s k D =
    cond s.same
    (large? w p (s.top - 64 * k) D (is_far s k) (is_far s k && eqb s.gap (64 * k)))
    (not (is_far s k) && small? w p (s.top - 64 * k) D (ltb 0 (open_digits s k)) (open_digits s k))

-- what lies below D where it is settled, as a half of its last unit
unfoldable pub more_of : Row → Bool
more_of Exact = false
more_of (Plus least next most) = least
more_of (Minus most) = most
more_of Hole = true

-- both tests; and the verdict on a row
unfoldable pub test_by : Mode → ℕ → Operand → Operand → ℕ → Row → Bool
test_by o p x y k row =
    let w = way o x.negative in
    let D = read_sum x y k in
    settled_by w p D row || refused_by w p (pair_of x y) k D

unfoldable pub verdict : Mode → ℕ → Operand → Operand → ℕ → Row → Bool
verdict o p x y k Exact = true
verdict o p x y k (Plus least next most) = test_by o p x y k (Plus least next most)
verdict o p x y k (Minus most) = test_by o p x y k (Minus most)
verdict o p x y k Hole = hole_by_size o p x.negative y.negative (mantissa x) ((pair_of x y).gap - x.precision)

unfoldable pub exact? : Row → Bool
exact? Exact = true
exact? (Plus least next most) = false
exact? (Minus most) = false
exact? Hole = false

-- some digit is unread, and there is no hole
unfoldable pub inner? : Row → Bool
inner? Exact = false
inner? (Plus least next most) = true
inner? (Minus most) = true
inner? Hole = false

-- a hole whose other operand begins at the half of the last digit kept
unfoldable pub middle? : Way → ℕ → ℕ → Bool
middle? near p gap = eqb p gap
middle? under p gap = false
middle? over p gap = false

-- and how the sum, or the difference, is then rounded
unfoldable pub hole_way : Way → ℕ → Pair → Way
hole_way w p s = cond (middle? w p s.gap) (cond s.same over under) w
