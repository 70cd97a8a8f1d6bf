-- Runs rounded, computed: marked sums of document 01 as runs, the ends of the range, and the rules in their order. Assumes nothing.
use mathlib.Core.Path.{◌≡◌, refl}
use mathlib.Core.Bool.{Bool, true, false}
use mathlib.Core.List.{List, [], ◌∷◌, map}
use Prim.Native.Nat.{ℕ, ◌+◌, ◌-◌, ◌*◌, ◌^◌, ◌<◌, Ordering}
use lib.IntN.{ℤ, pos, negsuc}
use lib.Ieee.{size}
use Rattle.limb.specs.Value.{value_in}
use Rattle.limb.specs.Carry.{bit}
use Rattle.numbers.specs.Limits.{least_precision, most_precision, bias, least_exponent, most_exponent, limbs_for}
use Rattle.numbers.specs.Limbs.{limbs_of}
use Rattle.numbers.specs.Operand.{mantissa, spare_bits}
use Rattle.numbers.proofs.Digits.{put, put_mantissa}
use Rattle.rounding.specs.Mode.{way}
use Rattle.rounding.specs.declared.Mode.{Mode}
use Rattle.rounding.specs.declared.Mode.TheVariants.{Nearest, Upward, Downward}
use Rattle.rounding.specs.Select.{quotient, on_grid, unit, chosen}
use Rattle.rounding.specs.Answer.{zero_of, number, too_large, too_small, ranged, digits, signed, rounded}
use Rattle.place.specs.declared.Placed.{Placed}
use Rattle.location.specs.Ternary.{ternary_of}
use Rattle.place.specs.Placed.{run_number, run_answer, run_rule, placed_of, limbs_after}
use Rattle.place.specs.Rounded.{refused_by, rounded_placed, rounded_limbs}

-- rule, exponent, ternary value and limbs
abbrev told : Mode → ℕ → Bool → ℕ → Bool → List ℕ → ℕ → Bool → Placed × List ℕ
told mode p negative e carry target guard more = (rounded_placed mode p negative e carry target guard more, rounded_limbs mode p negative e carry target guard more)

abbrev gives : ℕ → ℤ → List ℕ → Placed × List ℕ
gives e t l = (record { rule = 0; exponent = e; ternary = t }, l)

abbrev refuses : ℕ → List ℕ → Placed × List ℕ
refuses rule l = (record { rule = rule; exponent = 0; ternary = pos 0 }, l)

-- the weight of the last digit below n limbs and a guard, where 0.b1 b2 .. × 2^e begins at the top
abbrev below : ℕ → ℕ → ℕ
below n e = e - 64 * (n + 1)

-- P5, P6 and P7, and what a sign, a guard and `more` change; 65 digits in two limbs; a rest just below a half
pub marked_runs :
    told Nearest 2 false (below 1 bias) false (0b101 * 2 ^ 61 ∷ []) 0 false
    ∷ told Nearest 2 false (below 1 bias) false (0b101 * 2 ^ 61 ∷ []) 0 true
    ∷ told Nearest 2 false (below 1 bias) false (0b111 * 2 ^ 61 ∷ []) 0 false
    ∷ told Nearest 2 true (below 1 bias) false (0b111 * 2 ^ 61 ∷ []) 0 false
    ∷ told Nearest 2 false (below 1 bias) true (2 ^ 63 ∷ []) 0 false
    ∷ told Upward 2 false (below 1 bias) false (2 ^ 63 ∷ []) 1 false
    ∷ told Downward 2 false (below 1 bias) false (2 ^ 63 ∷ []) 0 true
    ∷ told Upward 2 true (below 1 bias) false (2 ^ 63 ∷ []) 0 true
    ∷ told Nearest 65 false (below 2 bias) false (2 ^ 62 ∷ 2 ^ 63 ∷ []) 0 false
    ∷ told Nearest 65 false (below 2 bias) false (2 ^ 62 ∷ 2 ^ 63 ∷ []) 1 false
    ∷ told Nearest 65 false (below 2 bias) true (0 ∷ 0 ∷ []) 0 false
    ∷ told Nearest 64 false (below 1 bias) false ((2 ^ 63 + 1) ∷ []) (2 ^ 63 - 1) true
    ∷ []
    ≡ gives bias (negsuc 0) (2 ^ 63 ∷ [])
    ∷ gives bias (pos 1) (0b11 * 2 ^ 62 ∷ [])
    ∷ gives (bias + 1) (pos 1) (2 ^ 63 ∷ [])
    ∷ gives (bias + 1) (negsuc 0) (2 ^ 63 ∷ [])
    ∷ gives (bias + 1) (pos 0) (0b11 * 2 ^ 62 ∷ [])
    ∷ gives bias (pos 1) (0b11 * 2 ^ 62 ∷ [])
    ∷ gives bias (negsuc 0) (2 ^ 63 ∷ [])
    ∷ gives bias (pos 1) (2 ^ 63 ∷ [])
    ∷ gives bias (negsuc 0) (0 ∷ 2 ^ 63 ∷ [])
    ∷ gives bias (pos 1) (2 ^ 63 ∷ 2 ^ 63 ∷ [])
    ∷ gives (bias + 1) (pos 0) (0 ∷ 2 ^ 63 ∷ [])
    ∷ gives bias (negsuc 0) ((2 ^ 63 + 1) ∷ [])
    ∷ []
unfolding rounded_placed rounded_limbs run_rule run_answer run_number placed_of limbs_after ternary_of way rounded ranged digits signed chosen on_grid unit quotient size bit value_in limbs_of limbs_for spare_bits bias least_precision most_precision least_exponent most_exponent
marked_runs = refl

-- marked sums 11 and 12: 0.11111 × 2^M up and down, and 0.01 × 2^N; the least exponent is in range
pub range_runs :
    told Upward 4 false (below 1 most_exponent) false (0b11111 * 2 ^ 59 ∷ []) 0 false
    ∷ told Downward 4 false (below 1 most_exponent) false (0b11111 * 2 ^ 59 ∷ []) 0 false
    ∷ told Nearest 4 true (below 1 least_exponent) false (2 ^ 62 ∷ []) 0 false
    ∷ told Nearest 4 true (below 1 least_exponent) false (2 ^ 63 ∷ []) 0 false
    ∷ []
    ≡ refuses 6 (0 ∷ []) ∷ gives most_exponent (negsuc 0) (0b1111 * 2 ^ 60 ∷ []) ∷ refuses 7 (0 ∷ []) ∷ gives least_exponent (pos 0) (2 ^ 63 ∷ []) ∷ []
unfolding rounded_placed rounded_limbs run_rule run_answer run_number placed_of limbs_after ternary_of way rounded ranged digits signed chosen on_grid unit quotient size bit value_in limbs_of limbs_for spare_bits bias least_precision most_precision least_exponent most_exponent
range_runs = refl

-- every rule broken, and then one fewer each; the target stays as it was
pub rules_in_order :
    told Nearest 1 false 0 false [] 0 false
    ∷ told Nearest 4097 false 0 false [] 0 false
    ∷ told Nearest 65 false 0 false (0 ∷ []) 0 false
    ∷ told Nearest 65 false 0 false (5 ∷ 0 ∷ []) 0 false
    ∷ told Nearest 65 false (2 * most_exponent + 1) false (5 ∷ 0 ∷ []) 0 false
    ∷ told Nearest 65 false 1 false (5 ∷ 0 ∷ []) 0 false
    ∷ []
    ≡ refuses 2 [] ∷ refuses 2 [] ∷ refuses 3 (0 ∷ []) ∷ refuses 4 (5 ∷ 0 ∷ []) ∷ refuses 4 (5 ∷ 0 ∷ []) ∷ refuses 5 (5 ∷ 0 ∷ []) ∷ []
unfolding rounded_placed rounded_limbs run_rule refused_by limbs_for bias least_precision most_precision most_exponent
rules_in_order = refl

-- a first digit in the carry or in the top limb, and a weight at either end
pub runs_that_pass : run_rule 65 true (0 ∷ 0 ∷ []) 1 ∷ run_rule 65 false (0 ∷ 1 ∷ []) (2 * most_exponent) ∷ [] ≡ 0 ∷ 0 ∷ []
unfolding run_rule limbs_for bias least_precision most_precision most_exponent
runs_that_pass = refl

-- ---- the limbs

-- a zero's and a refusal's are 0, as many as the digits take
pub cleared : map (limbs_after 65) (zero_of true ∷ too_large ∷ too_small ∷ []) ≡ (0 ∷ 0 ∷ []) ∷ (0 ∷ 0 ∷ []) ∷ (0 ∷ 0 ∷ []) ∷ []
unfolding limbs_after limbs_for
cleared = refl

-- a number's have the digits as their mantissa
pub limbs_mantissa : (p : ℕ) (n : Bool) (e m : ℕ) (t : Ordering) → m < 2 ^ p → mantissa (record { negative = n; is_zero = false; precision = p; exponent = e; limbs = limbs_after p (number n e m t) }) ≡ m
unfolding limbs_after put mantissa
limbs_mantissa p n e m t h = put_mantissa (record { negative = n; is_zero = false; precision = p; exponent = e; limbs = [] }) m h
