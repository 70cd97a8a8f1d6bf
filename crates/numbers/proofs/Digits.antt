-- A number of p digits as limbs, and back: every mantissa is that of a number of good form. Assumes nothing.
use mathlib.Core.Path.{◌≡◌, refl, sym, ap, ◌∙◌, subst}
use mathlib.Core.Bool.{false, true≢false}
use Prim.Native.Nat.{ℕ, zero, suc, ◌+◌, ◌-◌, ◌*◌, ◌/◌, ◌%◌, ◌^◌, ◌≤◌, ◌<◌}
use native.Mathlib.Nat.{le_trans, le_of_eq, lt_of_lt_of_le, mul-le-mul_right, mod-lt, mod-add-div, le-div_iff_mul-le, mul-mod_left}
use native.Mathlib.Omega.{arith}
use lib.ListN.{length}
use lib.Pow.{pow_pos, pow-add, shr_lt, shl-shr, shl_lt}
use Rattle.limb.specs.Value.{value_in, value_of, Below}
use Rattle.limb.proofs.Value.{value_lt, base_pow}
use Rattle.numbers.specs.Limits.{limbs_for}
unfoldable pub use Rattle.numbers.specs.Limbs.{limbs_of}
use Rattle.numbers.specs.Operand.{Operand, mantissa, last_weight, spare_bits, WellFormed, turned, zero_like}
use Rattle.numbers.proofs.Limits.{two_digits, weights_counted, limbs_hold}

-- ---- the n limbs of v

pub limbs_count : (n v : ℕ) → length (limbs_of n v) ≡ n
unfolding limbs_of
limbs_count zero v = refl
limbs_count (suc n) v = ap suc (limbs_count n (v / 2 ^ 64))

pub limbs_below : (n v : ℕ) → Below (2 ^ 64) (limbs_of n v)
unfolding limbs_of
limbs_below zero v i = pow_pos 64
limbs_below (suc n) v zero = mod-lt v (pow_pos 64)
limbs_below (suc n) v (suc i) = limbs_below n (v / 2 ^ 64) i

pub limbs_value : (n v : ℕ) → v < 2 ^ (64 * n) → value_of (limbs_of n v) ≡ v
unfolding limbs_of value_in
limbs_value zero v h = omega arith
limbs_value (suc n) v h =
    ap (λ (x : ℕ). v % 2 ^ 64 + 2 ^ 64 * x) (limbs_value n (v / 2 ^ 64) (shr_lt (64 * n) 64 (subst (λ (x : ℕ). v < 2 ^ x) (width n) h)))
    ∙ mod-add-div v (2 ^ 64)
  where
    width : (n : ℕ) → 64 * suc n ≡ 64 * n + 64
    width n = omega arith

-- ---- the digits of a number of good form

-- the limbs are the p digits and the spare bits
pub digits_and_spare : (p : ℕ) → p + spare_bits p ≡ 64 * limbs_for p
unfolding spare_bits
digits_and_spare p = omega (arith, limbs_hold p)

first_and_spare : (p : ℕ) → 2 ≤ p → p - 1 + spare_bits p ≡ 64 * limbs_for p - 1
first_and_spare p h = omega (arith, digits_and_spare p)

pub precision_two : (x : Operand) → WellFormed x → 2 ≤ x.precision
precision_two x g = le_trans two_digits g.least

limbs_lt : (x : Operand) → WellFormed x → value_of x.limbs < 2 ^ (x.precision + spare_bits x.precision)
limbs_lt x g = lt_of_lt_of_le (value_lt (2 ^ 64) x.limbs g.limb) (le_of_eq (base_pow (length x.limbs) ∙ ap (λ (n : ℕ). 2 ^ (64 * n)) g.count ∙ ap (λ (n : ℕ). 2 ^ n) (sym (digits_and_spare x.precision))))

pub mantissa_lt : (x : Operand) → WellFormed x → mantissa x < 2 ^ x.precision
unfolding mantissa
mantissa_lt x g = shr_lt x.precision (spare_bits x.precision) (limbs_lt x g)

-- the first digit is 1
pub mantissa_ge : (x : Operand) → WellFormed x → x.is_zero ≡ false → 2 ^ (x.precision - 1) ≤ mantissa x
unfolding mantissa
mantissa_ge x g r =
    let b = spare_bits x.precision in
    (le-div_iff_mul-le (pow_pos b)).1
    (le_trans (le_of_eq (sym (pow-add 2 (x.precision - 1) b) ∙ ap (λ (n : ℕ). 2 ^ n) (first_and_spare x.precision (precision_two x g)))) (g.regular r).lead)

-- ---- what a number of good form is worth: its first digit has the weight 2 ^ (e - 1)

weights : (x : Operand) → WellFormed x → x.is_zero ≡ false → (x.precision - 1 + last_weight x ≡ x.exponent - 1) × (x.precision + last_weight x ≡ x.exponent)
unfolding last_weight
weights x g r =
    let two = precision_two x g in
    let most = g.most in
    let least = (g.regular r).least in
    (omega (arith, two, most, least, weights_counted), omega (arith, most, least, weights_counted))

pub worth_lt : (x : Operand) → WellFormed x → x.is_zero ≡ false → mantissa x * 2 ^ last_weight x < 2 ^ x.exponent
worth_lt x g r = subst (λ (n : ℕ). mantissa x * 2 ^ last_weight x < 2 ^ n) (weights x g r).1 (shl_lt x.precision (last_weight x) (mantissa_lt x g))

pub worth_ge : (x : Operand) → WellFormed x → x.is_zero ≡ false → 2 ^ (x.exponent - 1) ≤ mantissa x * 2 ^ last_weight x
worth_ge x g r =
    le_trans (le_of_eq (ap (λ (n : ℕ). 2 ^ n) (sym (weights x g r).0) ∙ pow-add 2 (x.precision - 1) (last_weight x))) (mul-le-mul_right (2 ^ last_weight x) (mantissa_ge x g r))

-- ---- x with other digits

unfoldable pub put : Operand → ℕ → Operand
put x n = record { negative = x.negative; is_zero = x.is_zero; precision = x.precision; exponent = x.exponent; limbs = limbs_of (limbs_for x.precision) (n * 2 ^ spare_bits x.precision) }

put_value : (x : Operand) (n : ℕ) → n < 2 ^ x.precision → value_of (put x n).limbs ≡ n * 2 ^ spare_bits x.precision
unfolding put
put_value x n h =
    let b = spare_bits x.precision in
    limbs_value (limbs_for x.precision) (n * 2 ^ b) (subst (λ (z : ℕ). n * 2 ^ b < 2 ^ z) (digits_and_spare x.precision) (shl_lt x.precision b h))

pub put_mantissa : (x : Operand) (n : ℕ) → n < 2 ^ x.precision → mantissa (put x n) ≡ n
unfolding put mantissa
put_mantissa x n h =
    let b = spare_bits x.precision in
    ap (λ (z : ℕ). z / 2 ^ b) (put_value x n h) ∙ shl-shr n b

pub put_well_formed : (x : Operand) (n : ℕ) → WellFormed x → x.is_zero ≡ false → 2 ^ (x.precision - 1) ≤ n → n < 2 ^ x.precision → WellFormed (put x n)
unfolding put
put_well_formed x n g r l h =
    let b = spare_bits x.precision in
    record {
      least = g.least;
      most = g.most;
      count = limbs_count (limbs_for x.precision) (n * 2 ^ b);
      limb = limbs_below (limbs_for x.precision) (n * 2 ^ b);
      zero = g.zero;
      regular = λ e. record {
        least = (g.regular r).least;
        most = (g.regular r).most;
        lead = rw (put_value x n h) (le_trans (le_of_eq (sym (sym (pow-add 2 (x.precision - 1) b) ∙ ap (λ (z : ℕ). 2 ^ z) (first_and_spare x.precision (precision_two x g))))) (mul-le-mul_right (2 ^ b) l));
        spare = rw (put_value x n h) (mul-mod_left n (2 ^ b));
      };
    }

-- ---- a zero of x's sign and precision, and x with the other sign

pub zero_well_formed : (x : Operand) → WellFormed x → WellFormed (zero_like x)
unfolding zero_like
zero_well_formed x g = record { least = g.least; most = g.most; count = g.count; limb = g.limb; zero = λ e. refl; regular = λ e. absurd (true≢false e) }

pub turned_well_formed : (x : Operand) → WellFormed x → WellFormed (turned x)
unfolding turned
turned_well_formed x g = record { least = g.least; most = g.most; count = g.count; limb = g.limb; zero = g.zero; regular = λ e. record { least = (g.regular e).least; most = (g.regular e).most; lead = (g.regular e).lead; spare = (g.regular e).spare } }
