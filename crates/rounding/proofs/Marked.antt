-- The marked sums of document 01 have the answers that it gives: P1 to P9, each row computed; 10 to 12, at the ends of the range.
use Prim.Native.Nat.{Ordering}
use Prim.Native.Nat.{ℕ, ◌-◌, ◌^◌, ◌<◌}
use mathlib.Core.Path.{◌≡◌, refl, sym, ◌∙◌, subst}
use mathlib.Core.Bool.{true, false}
use mathlib.Core.List.{List, map, Memᴰ}
use native.Mathlib.Omega.{arith}
use lib.Dec.{T, lit<}
use lib.Pow.{pow-lt}
use lib.Ieee.{size}
use Rattle.limb.specs.Value.{value_in}
use Rattle.numbers.specs.Limits.{least_precision, most_precision, bias, least_exponent, most_exponent, limbs_for}
use Rattle.numbers.specs.Operand.{Operand, last_weight, mantissa, spare_bits, turned, WellFormed}
use Rattle.rounding.specs.Mode.{Way, way}
use Rattle.rounding.specs.declared.Mode.{Mode}
use Rattle.rounding.specs.Select.{chosen, unit, quotient, on_grid}
use Rattle.rounding.specs.Answer.{too_large, too_small, answer, rounded, ranged, digits, signed}
use Rattle.rounding.specs.Sum.{add, subtract, sum_at, amount, share, scale, zero_sign, cancelled}
use Rattle.rounding.specs.Marked.{shown, gives, Row, rows}
use Rattle.rounding.proofs.Formed.{all, are_limbs, tests, formed}
use Rattle.rounding.proofs.Ends.{plus}
use Rattle.rounding.proofs.Scale.{exact}
use Rattle.rounding.proofs.Range.{refused_large, refused_small}
use Rattle.rounding.specs.declared.Mode.TheVariants.{Upward, Downward}

-- two functions that agree on a list agree at each of its members
agree : {A : Type 0} (f g : Row → A) (r : Row) {l : List Row} → Memᴰ r l → map f l ≡ map g l → f r ≡ g r
agree f g r (Memᴰ.head h) e = cc
agree f g r (Memᴰ.tail m) e = agree f g r m (cc)

pub marked : (r : Row) → Memᴰ r rows → r.operation r.mode r.target r.first r.second ≡ r.is
unfolding rows add subtract sum_at amount answer rounded ranged digits signed chosen on_grid unit quotient way share scale zero_sign cancelled last_weight mantissa spare_bits turned limbs_for bias least_exponent most_exponent value_in size
marked r m = agree (λ r. r.operation r.mode r.target r.first r.second) (λ r. r.is) r m refl

-- and their operands are of good form
pub marked_formed : (r : Row) → Memᴰ r rows → WellFormed r.first × WellFormed r.second
unfolding rows all tests are_limbs least_precision most_precision least_exponent most_exponent bias limbs_for spare_bits value_in
marked_formed r m = (formed r.first (passes (λ r. r.first) refl), formed r.second (passes (λ r. r.second) refl))
  where
    passes : (f : Row → Operand) → map (λ r. all (tests (f r))) rows ≡ map (λ r. true) rows → T (all (tests (f r)))
    passes f e = subst T (sym (agree (λ r. all (tests (f r))) (λ r. true) r m e)) tt

-- ---- rows 10 and 12, in every mode and at every target precision: the sum is a power of two

-- a power of two is selected as it is
power : (w : Way) (p k : ℕ) → 0 < p → chosen w p (2 ^ k) ≡ 2 ^ k
power w p k P = exact w p (2 ^ k) P (record { digits = 1; shift = k; few = pow-lt P; is = omega arith })

pub marked_ten : (o : Mode) (p : ℕ) → 0 < p → add o p (shown 2 0b10 most_exponent) (shown 2 0b10 most_exponent) ≡ too_large
unfolding add sum_at amount share scale last_weight mantissa spare_bits limbs_for bias most_exponent value_in size
marked_ten o p P =
    plus (zero_sign o false false) o p (most_exponent - 2) P 4 0 (lit< tt)
    ∙ (refused_large (way o false) p (most_exponent - 2) false 4).1 (rw (power (way o false) p 2 P) (lit< tt))

pub marked_twelve : (o : Mode) (p : ℕ) → 0 < p → subtract o p (shown 2 0b11 least_exponent) (shown 2 0b10 least_exponent) ≡ too_small
unfolding subtract turned add sum_at amount share scale last_weight mantissa spare_bits limbs_for bias least_exponent value_in size
marked_twelve o p P =
    plus (zero_sign o false true) o p (least_exponent - 2) P 3 2 (lit< tt)
    ∙ (refused_small (way o false) p (least_exponent - 2) false 1).1 (rw (power (way o false) p 0 P) (lit< tt))

-- ---- row 11

pub marked_eleven_up : add Upward 4 (shown 4 0b1111 most_exponent) (shown 2 0b10 (most_exponent - 5)) ≡ too_large
unfolding add sum_at amount answer rounded ranged digits signed chosen on_grid unit quotient way share scale zero_sign last_weight mantissa spare_bits limbs_for bias most_exponent value_in size
marked_eleven_up = refl

pub marked_eleven_down : add Downward 4 (shown 4 0b1111 most_exponent) (shown 2 0b10 (most_exponent - 5)) ≡ gives 0b1111 most_exponent Ordering.lt
unfolding add sum_at amount answer rounded ranged digits signed chosen on_grid unit quotient way share scale zero_sign last_weight mantissa spare_bits limbs_for bias least_exponent most_exponent value_in size
marked_eleven_down = refl
