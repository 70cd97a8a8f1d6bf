-- Comparisons computed, and what an order says of the exact difference. Assumes nothing.
use mathlib.Core.Path.{◌≡◌, refl}
use mathlib.Core.Bool.{Bool, true, false}
use mathlib.Core.List.{List, [], ◌∷◌}
use Prim.Native.Nat.{ℕ, ◌+◌, ◌-◌, ◌*◌, ◌^◌, ◌<◌, compare, Ordering}
use native.Mathlib.Omega.{arith}
use lib.IntN.{ℤ, pos, negsuc}
use Rattle.rounding.proofs.Mirror.{share_turned}
use Rattle.limb.specs.Value.{value_in}
use Rattle.numbers.specs.Limits.{least_precision, most_precision, bias, counted, least_exponent, most_exponent, limbs_for}
use Rattle.numbers.specs.Operand.{Operand, spare_bits, mantissa, last_weight, turned}
use Rattle.rounding.specs.Sum.{scale, amount, share}
use Rattle.rounding.specs.Paper.{Exact}
use Rattle.rounding.proofs.Order.{Cmp, cmp}
use Rattle.checks.specs.declared.Number.{Number}
use Rattle.checks.specs.declared.Kind.{Kind}
use Rattle.checks.specs.declared.Kind.TheVariants.{Regular, Zero}
use Rattle.checks.specs.Number.{is_zero_kind, operand_of}
use Rattle.checks.specs.Check.{accepted, first_refusal, answered, answered, precision_holds, length_holds, exponent_holds, top_bit_holds, spare_bits_hold, form_holds, compared_refusal}
use Rattle.std.specs.Prelude.{Result, Ok, Err}
use Rattle.std.specs.declared.cmp.Ordering.{Ordering as Order}
use Rattle.std.specs.declared.cmp.Ordering.TheVariants.{Less, Equal, Greater}
use Rattle.checks.specs.declared.Refusal.{Refusal}
use Rattle.checks.specs.Refusal.{rule_number, place_number}
use Rattle.checks.specs.declared.Rule.TheVariants.{Precision}
use Rattle.checks.specs.declared.Place.TheVariants.{First, Second}
use Rattle.order.specs.Order.{order_of, case_of, number_of, sign_of, compared_of}

-- ---- the order is the sign of x - y, the sum of x and the turned y

-- what each order says of it, in units of the lowest weight present
abbrev pub Differ : Ordering → Operand → Operand → Type 0
Differ Ordering.lt x y = (m : ℕ) × (0 < m) × Exact (scale x y) x (turned y) true m
Differ Ordering.eq x y = Exact (scale x y) x (turned y) false 0
Differ Ordering.gt x y = (m : ℕ) × (0 < m) × Exact (scale x y) x (turned y) false m

pub order_is_difference : (x y : Operand) → Differ (order_of x y) x y
unfolding order_of
order_is_difference x y = go (compare above below) (cmp above below)
  where
    s : ℕ
    s = scale x y

    above : ℕ
    above = share false s x + share true s y

    below : ℕ
    below = share true s x + share false s y

    go : (o : Ordering) → Cmp o above below → Differ o x y
    go Ordering.lt h = (below - above, omega arith, rw (share_turned true s y, share_turned false s y) (omega arith))
    go Ordering.eq h = rw (share_turned true s y, share_turned false s y) (omega arith)
    go Ordering.gt h = (above - below, omega arith, rw (share_turned true s y, share_turned false s y) (omega arith))

-- ---- comparisons

-- a number with its limbs
abbrev Given : Type 0
Given = Number × List ℕ

abbrev given : Bool → Kind → ℕ → ℤ → List ℕ → Given
given n k p e l = (record { negative = n; kind = k; precision = p; exponent = e }, l)

-- 1/2, 3/4 and 1, in two digits; 1 in 65 digits, and the next number; the zeros; and one digit, which is no precision
abbrev half : Bool → Given
half n = given n Regular 2 (pos 0) (2 ^ 63 ∷ [])

abbrev three_quarters : Bool → Given
three_quarters n = given n Regular 2 (pos 0) (3 * 2 ^ 62 ∷ [])

abbrev one : Given
one = given false Regular 2 (pos 1) (2 ^ 63 ∷ [])

abbrev long_one : Given
long_one = given false Regular 65 (pos 1) (0 ∷ 2 ^ 63 ∷ [])

abbrev above_one : Given
above_one = given false Regular 65 (pos 1) (2 ^ 63 ∷ 2 ^ 63 ∷ [])

abbrev none : Bool → Given
none n = given n Zero 2 (pos 0) (5 ∷ [])

abbrev one_digit : Given
one_digit = given true Regular 1 (pos 0) (2 ^ 63 ∷ [])

abbrev told : Given → Given → Result Order Refusal
told x y = compared_of x.0 x.1 y.0 y.1

abbrev less : Result Order Refusal
less = Ok Less

abbrev equal : Result Order Refusal
equal = Ok Equal

abbrev greater : Result Order Refusal
greater = Ok Greater

-- the numbers of a comparison: of its case, of the rule and of the place, both 0 where nothing is refused
abbrev numbers : Result Order Refusal → ℤ × ℕ × ℕ
numbers (Ok o) = (number_of o, 0, 0)
numbers (Err r) = (pos 0, rule_number r.rule, place_number r.place)

-- by size, by sign, by exponent, by the limbs below; the zeros; and a refused comparison: the answers, and their numbers
pub compared :
    (told (half false) (three_quarters false)
    ∷ told (three_quarters false) (half false)
    ∷ told (half true) (three_quarters true)
    ∷ told (half true) (half false)
    ∷ told one (three_quarters false)
    ∷ told one long_one
    ∷ told one above_one
    ∷ told (none true) (none false)
    ∷ told (none true) (half true)
    ∷ told (none false) (half false)
    ∷ told one_digit one
    ∷ told one one_digit
    ∷ []
    ≡ less ∷ greater ∷ greater ∷ less ∷ greater ∷ equal ∷ less ∷ equal ∷ greater ∷ less ∷ Err (record { rule = Precision; place = First }) ∷ Err (record { rule = Precision; place = Second }) ∷ [])
    × (numbers (told (half false) (three_quarters false))
    ∷ numbers (told (three_quarters false) (half false))
    ∷ numbers (told (half true) (three_quarters true))
    ∷ numbers (told (half true) (half false))
    ∷ numbers (told one (three_quarters false))
    ∷ numbers (told one long_one)
    ∷ numbers (told one above_one)
    ∷ numbers (told (none true) (none false))
    ∷ numbers (told (none true) (half true))
    ∷ numbers (told (none false) (half false))
    ∷ numbers (told one_digit one)
    ∷ numbers (told one one_digit)
    ∷ []
    ≡ (negsuc 0, 0, 0) ∷ (pos 1, 0, 0) ∷ (pos 1, 0, 0) ∷ (negsuc 0, 0, 0) ∷ (pos 1, 0, 0) ∷ (pos 0, 0, 0) ∷ (negsuc 0, 0, 0) ∷ (pos 0, 0, 0) ∷ (pos 1, 0, 0) ∷ (negsuc 0, 0, 0) ∷ (pos 0, 2, 1) ∷ (pos 0, 2, 2) ∷ [])
unfolding compared_of answered case_of order_of scale share amount mantissa last_weight value_in compared_refusal first_refusal accepted precision_holds length_holds exponent_holds form_holds top_bit_holds spare_bits_hold operand_of is_zero_kind counted bias least_precision most_precision least_exponent most_exponent limbs_for spare_bits number_of rule_number place_number
compared = (refl, refl)

-- document 01's number for each order
pub order_numbers : (number_of Less ≡ negsuc 0) × (number_of Equal ≡ pos 0) × (number_of Greater ≡ pos 1)
unfolding number_of
order_numbers = (refl, refl, refl)

-- the sign as a number
pub sign_numbers : (sign_of Ordering.lt ≡ negsuc 0) × (sign_of Ordering.eq ≡ pos 0) × (sign_of Ordering.gt ≡ pos 1)
unfolding sign_of
sign_numbers = (refl, refl, refl)
