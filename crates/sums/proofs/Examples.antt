-- Sums as a caller gets them, computed: document 01's case and marked sums with all that is reported; zeros; and a refused call. Assumes nothing.
use mathlib.Core.Path.{◌≡◌, refl, ap, ◌∙◌, subst}
use mathlib.Core.Bool.{Bool, true, false, ◌&&◌}
use mathlib.Core.List.{List, [], ◌∷◌}
use Prim.Native.Nat.{Ordering}
use Prim.Native.Nat.{ℕ, ◌+◌, ◌-◌, ◌*◌, ◌^◌, ◌≤◌, ◌<◌}
use native.Mathlib.Nat.{le_antisymm}
use native.Mathlib.Omega.{arith}
use lib.Dec.{T, lit<}
use lib.IntN.{ℤ, pos, negsuc}
use lib.Ieee.{size}
use Rattle.limb.specs.Value.{value_in}
use Rattle.numbers.specs.Limits.{least_precision, most_precision, bias, counted, least_exponent, most_exponent, limbs_for}
use Rattle.numbers.specs.Limbs.{limbs_of}
use Rattle.numbers.specs.Operand.{Operand, mantissa, last_weight, spare_bits, turned, zero_like}
use Rattle.rounding.specs.Mode.{way}
use Rattle.rounding.specs.declared.Mode.{Mode}
use Rattle.rounding.specs.Select.{quotient, on_grid, unit, chosen}
use Rattle.rounding.specs.Answer.{Answer, number, too_large, too_small, ranged, digits, signed, rounded, answer}
use Rattle.rounding.specs.Sum.{scale, amount, share, zero_sign, sum_at, add, subtract}
use Rattle.rounding.proofs.Formed.{all, are_limbs, tests, formed}
use Rattle.rounding.specs.declared.Mode.TheVariants.{Nearest, Upward}
use Rattle.depth.specs.Columns.{top_exponent, limbs_used}
use Rattle.depth.specs.Depth.{Operation, plus, minus, result, Depth}
use Rattle.depth.specs.Bound.{columns_for, far_columns, bound_of, bound}
use Rattle.depth.proofs.Theorems.{depth_bounded}
use Rattle.checks.specs.declared.Number.{Number}
use Rattle.std.specs.Prelude.{Ok, Err}
use Rattle.checks.specs.declared.Rule.{Rule}
use Rattle.checks.specs.declared.Rule.TheVariants.{Mode as BrokenMode, TooLarge, TooSmall}
use Rattle.checks.specs.declared.Place.{Place}
use Rattle.checks.specs.declared.Place.TheVariants.{Call, Target}
use Rattle.checks.specs.declared.Kind.{Kind}
use Rattle.checks.specs.declared.Kind.TheVariants.{Regular, Zero}
use Rattle.checks.specs.Number.{is_zero_kind, operand_of, exponent_of}
use Rattle.checks.specs.Check.{accepted, first_refusal, mode_holds, precision_holds, length_holds, exponent_holds, form_holds, pair_refusal, single_refusal}
use Rattle.location.specs.Ternary.{ternary_of}
use Rattle.place.specs.Placed.{limbs_after}
use Rattle.reports.specs.declared.report.Sum.{Sum}
use Rattle.reports.specs.Summed.{refused_sum, sum_of, Reported, Summed, Rerounded}

abbrev given : Bool → Kind → ℕ → ℤ → Number
given n k p e = record { negative = n; kind = k; precision = p; exponent = e }

-- a sum that holds a number, and one that is refused
abbrev rounded_to : ℕ → ℕ → ℕ → Number → ℤ → Sum
rounded_to depth first second x t = record { depth = depth; first = first; answer = Ok (record { number = x; ternary = t }); second = second }

abbrev refused_by : ℕ → ℕ → ℕ → Rule → Place → Sum
refused_by depth first second rule place = record { depth = depth; first = first; answer = Err (record { rule = rule; place = place }); second = second }

-- ---- where one column is enough

module _ (f : Operation) (o : Mode) (p : ℕ) (P : 0 < p) (x y : Operand) (g : T (all (tests x))) (h : T (all (tests y))) (some : (x.is_zero && y.is_zero) ≡ false) (one : bound p x y ≡ 1) where
  one_column : (k : ℕ) → Depth f o p x y k → k ≡ 1
  one_column k d = le_antisymm (subst (λ (n : ℕ). k ≤ n) one (depth_bounded f o p P x y (formed x g) (formed y h) k d)) (d.deciding some).one

  -- the whole answer and the target, given the rounded number
  shallow : (a : Answer) → result f o p x y ≡ a → (exit : List ℕ) (r : Sum) → Reported f o p x y exit r
      → (r ≡ sum_of a p 1 (limbs_used (top_exponent x y) 1 x) (limbs_used (top_exponent x y) 1 y)) × (exit ≡ limbs_after p a)
  shallow a e exit r h = (
    h.answer
        ∙ ap (λ (k : ℕ). sum_of (result f o p x y) p k (limbs_used (top_exponent x y) k x) (limbs_used (top_exponent x y) k y)) (one_column r.depth h.depth)
        ∙ ap (λ (b : Answer). sum_of b p 1 (limbs_used (top_exponent x y) 1 x) (limbs_used (top_exponent x y) 1 y)) e,
    h.target ∙ ap (limbs_after p) e,
  )

-- 0.d × 2^e in one limb
abbrev pub shown : ℕ → ℕ → ℕ → Operand
shown q d e = record { negative = false; is_zero = false; precision = q; exponent = e; limbs = d * 2 ^ (64 - q) ∷ [] }

-- document 01's case: 1 + 2^-5 in four digits, to the nearest, is 1, and more than that is exact
pub case_reported : (exit : List ℕ) (r : Sum) → Reported plus Nearest 4 (shown 4 0b1000 (bias + 1)) (shown 2 0b10 (bias - 4)) exit r
    → (r ≡ rounded_to 1 1 1 (given false Regular 4 (pos 1)) (negsuc 0)) × (exit ≡ 2 ^ 63 ∷ [])
unfolding result add sum_at amount answer rounded ranged digits signed chosen on_grid unit quotient way share scale zero_sign last_weight mantissa spare_bits limbs_for bias least_precision most_precision least_exponent most_exponent value_in size all tests are_limbs bound bound_of far_columns columns_for sum_of exponent_of accepted ternary_of limbs_used top_exponent limbs_after limbs_of
case_reported exit r h = shallow plus Nearest 4 (lit< tt) (shown 4 0b1000 (bias + 1)) (shown 2 0b10 (bias - 4)) tt tt refl refl (number false (bias + 1) 0b1000 Ordering.lt) refl exit r h

-- marked sum 10, in four digits to the nearest: refused 6 at place 3, depth 1; and 12, refused 7
pub ten_reported : (exit : List ℕ) (r : Sum) → Reported plus Nearest 4 (shown 2 0b10 most_exponent) (shown 2 0b10 most_exponent) exit r
    → (r ≡ refused_by 1 1 1 TooLarge Target) × (exit ≡ 0 ∷ [])
unfolding result add sum_at amount answer rounded ranged chosen on_grid unit quotient way share scale zero_sign last_weight mantissa spare_bits limbs_for bias least_precision most_precision least_exponent most_exponent value_in size all tests are_limbs bound bound_of far_columns columns_for sum_of refused_sum limbs_used top_exponent limbs_after
ten_reported exit r h = shallow plus Nearest 4 (lit< tt) (shown 2 0b10 most_exponent) (shown 2 0b10 most_exponent) tt tt refl refl too_large refl exit r h

pub twelve_reported : (exit : List ℕ) (r : Sum) → Reported minus Nearest 4 (shown 2 0b11 least_exponent) (shown 2 0b10 least_exponent) exit r
    → (r ≡ refused_by 1 1 1 TooSmall Target) × (exit ≡ 0 ∷ [])
unfolding result add subtract turned sum_at amount answer rounded ranged chosen on_grid unit quotient way share scale zero_sign last_weight mantissa spare_bits limbs_for bias least_precision most_precision least_exponent most_exponent value_in size all tests are_limbs bound bound_of far_columns columns_for sum_of refused_sum limbs_used top_exponent limbs_after
twelve_reported exit r h = shallow minus Nearest 4 (lit< tt) (shown 2 0b11 least_exponent) (shown 2 0b10 least_exponent) tt tt refl refl too_small refl exit r h

-- as marked sum 11, up, with the second number farther: refused 6, and limbs 1 and 0 are reported
pub eleven_farther : (exit : List ℕ) (r : Sum) → Reported plus Upward 4 (shown 4 0b1111 most_exponent) (shown 2 0b10 (most_exponent - 100)) exit r
    → (r ≡ refused_by 1 1 0 TooLarge Target) × (exit ≡ 0 ∷ [])
unfolding result add sum_at amount answer rounded ranged chosen on_grid unit quotient way share scale zero_sign last_weight mantissa spare_bits limbs_for bias least_precision most_precision least_exponent most_exponent value_in size all tests are_limbs bound bound_of far_columns columns_for sum_of refused_sum limbs_used top_exponent limbs_after
eleven_farther exit r h = shallow plus Upward 4 (lit< tt) (shown 4 0b1111 most_exponent) (shown 2 0b10 (most_exponent - 100)) tt tt refl refl too_large refl exit r h

-- as marked sum 13, with the second number nearer: the last of 62 bits set, ternary value 1, depth 1, limbs 1 and 0
pub thirteen_nearer : (exit : List ℕ) (r : Sum) → Reported plus Upward 62 (shown 2 0b10 bias) (shown 2 0b10 (bias - 100)) exit r
    → (r ≡ rounded_to 1 1 0 (given false Regular 62 (pos 0)) (pos 1)) × (exit ≡ (2 ^ 63 + 2 ^ 2) ∷ [])
unfolding result add sum_at amount answer rounded ranged digits signed chosen on_grid unit quotient way share scale zero_sign last_weight mantissa spare_bits limbs_for bias least_precision most_precision least_exponent most_exponent value_in size all tests are_limbs bound bound_of far_columns columns_for sum_of exponent_of accepted ternary_of limbs_used top_exponent limbs_after limbs_of
thirteen_nearer exit r h = shallow plus Upward 62 (lit< tt) (shown 2 0b10 bias) (shown 2 0b10 (bias - 100)) tt tt refl refl (number false bias (2 ^ 61 + 1) Ordering.gt) refl exit r h

-- ---- a zero re-rounded, and a refused call

-- -0 of two digits, to 65: depth and counts 0, and both limbs 0
pub zero_rerounded : (exit : List ℕ) (r : Sum) → Rerounded 2 (given true Zero 2 (pos 0)) (5 ∷ []) 65 (7 ∷ 7 ∷ []) exit r
    → (r ≡ rounded_to 0 0 0 (given true Zero 65 (pos 0)) (pos 0)) × (exit ≡ 0 ∷ 0 ∷ [])
unfolding single_refusal first_refusal accepted mode_holds precision_holds length_holds exponent_holds form_holds operand_of is_zero_kind counted bias least_precision most_precision limbs_for zero_like result add sum_at amount answer share scale zero_sign sum_of limbs_used top_exponent limbs_after
zero_rerounded exit r h =
    let t = h.reported refl in
    let x = operand_of (given true Zero 2 (pos 0)) (5 ∷ []) in
    (t.answer ∙ ap (λ (k : ℕ). sum_of (result plus Upward 65 x (zero_like x)) 65 k (limbs_used (top_exponent x (zero_like x)) k x) (limbs_used (top_exponent x (zero_like x)) k (zero_like x))) (t.depth.zeros refl), t.target)

-- mode 4, whatever the operands: 1 at place 0, depth and counts 0, and the target as it was
pub mode_refused : (exit : List ℕ) (r : Sum) → Summed plus 4 (given true Regular 1 (pos 0)) [] (given true Regular 1 (pos 0)) [] 1 (7 ∷ 7 ∷ []) exit r
    → (r ≡ refused_by 0 0 0 BrokenMode Call) × (exit ≡ 7 ∷ 7 ∷ [])
unfolding pair_refusal first_refusal mode_holds refused_sum
mode_refused exit r h = let t = h.refused (record { rule = BrokenMode; place = Call }) refl in (t.answer, t.target)
