-- The number of a double is of good form and worth what the double is, and a double that is not subnormal comes back from it as itself. Assumes nothing.
use mathlib.Core.Path.{◌≡◌, refl, sym, ap, ◌∙◌, subst}
use mathlib.Core.Logic.{◌⊎◌, inl, inr}
use mathlib.Core.Bool.{Bool, true, false, not, cond, ◌||◌, true≢false}
use mathlib.Core.List.{List, [], ◌∷◌}
use Prim.Native.Nat.{Ordering}
use Prim.Native.Nat.{ℕ, zero, suc, ◌+◌, ◌-◌, ◌*◌, ◌/◌, ◌%◌, ◌^◌, ◌≤◌, ◌<◌}
use native.Mathlib.Nat.{le_trans, le_of_eq, mul_assoc, mul-le-mul_right, mul-mod_left, zero-mul, mul-one}
use native.Mathlib.Omega.{arith}
use lib.Dec.{T, leb, eqb}
use lib.Pow.{pow-add, shl_lt, shl-shr}
use lib.Ieee.{Float, binary64, to_bits, fits, is_nan, size}
use lib.Ieee.Bits.{of_bits-to_bits, to_bits-lt}
use lib.Ieee.Digits.{size-lt, size-le, size_reaches}
use borrow.Author.Tests.{ltb-true, eqb-false, eqb-true, eq-eqb, ne_eqb, leb-true, leb-false}
use Rattle.rounding.proofs.Order.{zero_or}
use Rattle.limb.specs.Value.{value_in, value_of, Below}
use Rattle.numbers.specs.Limits.{least_precision, most_precision, bias, counted, least_exponent, most_exponent, limbs_for}
use Rattle.numbers.specs.Operand.{Operand, mantissa, last_weight, spare_bits, WellFormed}
use Rattle.rounding.specs.Mode.{mode_of, way}
use Rattle.rounding.specs.declared.Mode.{Mode}
use Rattle.rounding.specs.Answer.{number}
use Rattle.rounding.specs.Sum.{amount, reround}
use Rattle.rounding.proofs.Selection.{multiple}
use Rattle.limb.proofs.Sizes.{size_is, size_ge}
use Rattle.rounding.proofs.Range.{accepted_only}
use Rattle.rounding.proofs.Reround.{reround_is, reround_own}
use Rattle.location.specs.Ternary.{ternary_of}
use Rattle.checks.specs.Number.{operand_of, is_zero_kind}
use Rattle.checks.specs.Check.{accepted, answered, left_by}
use Rattle.checks.proofs.Accepted.{converted_accepted}
use Rattle.checks.proofs.Signed.{counted_exponent_of}
use Rattle.std.specs.Prelude.{Ok}
use Rattle.checks.specs.declared.Number.{Number}
use Rattle.checks.specs.declared.Rule.TheVariants.{DoubleTooSmall}
use Rattle.doubles.specs.declared.Converted.TheVariants.{Exact}
use Rattle.unpack.specs.Double.{double_precision, double_least, double_most, double_sign, exponent_field, fraction, is_finite, double_digits, double_scale, double_worth, double_unit, sign_bit, packed, double}
use Rattle.doubles.specs.Convert.{in_doubles, converted_in, outside, case_of, double_case, converted_of}
use Rattle.unpack.specs.Read.{is_number, read_exponent, number_of_bits, limbs_of_bits, read_of, read_limbs}
use Rattle.unpack.proofs.Reading.{no_refusal}
use Rattle.doubles.proofs.Cases.{in_doubles_lem, is_under, is_inside, result, E}
use Rattle.doubles.proofs.Worth.{regular_amount}
use Rattle.doubles.proofs.Between.{digits_lt}

-- the number of bits, as the theory has it
abbrev pub read_back : ℕ → Operand
read_back b = operand_of (number_of_bits b) (limbs_of_bits b)

-- ---- bits are their sign, field and fraction

joined_back : (b : ℕ) → b < 2 ^ 64 → sign_bit (double_sign b) + exponent_field b * 2 ^ 52 + fraction b ≡ b
unfolding sign_bit double_sign exponent_field fraction
joined_back b h = go (leb (2 ^ 63) b) refl
  where
    go : (t : Bool) → leb (2 ^ 63) b ≡ t → cond t (2 ^ 63) 0 + b / 2 ^ 52 % 2 ^ 11 * 2 ^ 52 + b % 2 ^ 52 ≡ b
    go true e = let k = leb-true (2 ^ 63) b e in omega arith
    go false e = let k = leb-false (2 ^ 63) b e in omega arith

low_digits : (b : ℕ) → exponent_field b ≡ 0 → double_digits b < 2 ^ 52
unfolding double_digits fraction
low_digits b e = rw (eq-eqb (exponent_field b) 0 e) (omega arith)

none : (b : ℕ) → b < 2 ^ 64 → exponent_field b ≡ 0 → double_digits b ≡ 0 → sign_bit (double_sign b) ≡ b
unfolding double_digits
none b h f e =
    let g : fraction b ≡ 0 = rw (eq-eqb (exponent_field b) 0 f) at e in
    let k = joined_back b h in
    omega arith

normal_some : (b : ℕ) → (exponent_field b ≡ 0 → ⊥) → double_digits b ≡ 0 → ⊥
unfolding double_digits
normal_some b f e = let g : 2 ^ 52 + fraction b ≡ 0 = rw (ne_eqb (exponent_field b) 0 f) at e in omega arith

-- a zero has neither field nor fraction
zero_back : (b : ℕ) → b < 2 ^ 64 → double_digits b ≡ 0 → sign_bit (double_sign b) ≡ b
zero_back b h e = go (eqb (exponent_field b) 0) refl
  where
    go : (t : Bool) → eqb (exponent_field b) 0 ≡ t → sign_bit (double_sign b) ≡ b
    go true f = none b h (eqb-true (exponent_field b) 0 f) e
    go false f = absurd (normal_some b (eqb-false (exponent_field b) 0 f) e)

-- ---- a number of 53 digits is converted as it is

own : (mode : Mode) (x : Operand) (g : WellFormed x) (z : x.is_zero ≡ false) → x.precision ≡ 53 → result mode x g z ≡ number x.negative x.exponent (mantissa x) Ordering.eq
own mode x g z p =
    (accepted_only (way mode x.negative) 53 (last_weight x) x.negative (mantissa x) x.negative x.exponent (mantissa x) Ordering.eq
    (sym (reround_is mode 53 x (omega arith) g z) ∙ subst (λ (q : ℕ). reround mode q x ≡ number x.negative x.exponent (mantissa x) Ordering.eq) p (reround_own mode x g z))).0

module _ (mode : Mode) (x : Operand) (g : WellFormed x) (z : x.is_zero ≡ false) (p : x.precision ≡ 53) where
  exponent_own : E mode x g z ≡ x.exponent
  exponent_own = let e = own mode x g z p in cc

  pub own_inside : double_least ≤ x.exponent → x.exponent ≤ double_most → double_case (in_doubles mode x) ≡ Ok (Exact (double (packed x.negative x.exponent (mantissa x))))
  unfolding double_case case_of ternary_of
  own_inside lo hi = ap double_case (in_doubles_lem mode x g z ∙ is_inside _ (E mode x g z) (rw exponent_own lo) (rw exponent_own hi) ∙ own mode x g z p)

  pub own_under : x.exponent < double_least → double_case (in_doubles mode x) ≡ outside DoubleTooSmall
  unfolding double_case
  own_under h = ap double_case (in_doubles_lem mode x g z ∙ is_under _ (E mode x g z) (rw exponent_own h))

-- ---- a finite double that is not 0

module _ (b : ℕ) (finite : is_finite b ≡ true) (some : 0 < double_digits b) where
  abbrev D : ℕ
  D = double_digits b

  abbrev z : ℕ
  z = size D

  abbrev v : ℕ
  v = D * 2 ^ (64 - z)

  abbrev regular : Operand
  regular = record { negative = double_sign b; is_zero = false; precision = 53; exponent = read_exponent b; limbs = v ∷ [] }

  field_lt : exponent_field b < 2047
  unfolding is_finite
  field_lt = ltb-true (exponent_field b) 2047 finite

  pub scale_range : (1 ≤ double_scale b) × (double_scale b ≤ 2046)
  unfolding double_scale
  scale_range = go (eqb (exponent_field b) 0) refl
    where
      go : (t : Bool) → eqb (exponent_field b) 0 ≡ t → (1 ≤ cond t 1 (exponent_field b)) × (cond t 1 (exponent_field b) ≤ 2046)
      go true e = (omega arith, omega arith)
      go false e = let k = eqb-false (exponent_field b) 0 e in (omega arith, omega (arith, field_lt))

  z_some : 0 < z
  z_some = size_ge D 0 some

  z_most : z ≤ 53
  z_most = size-le D 53 (digits_lt b)

  exponent_range : (least_exponent ≤ read_exponent b) × (read_exponent b ≤ most_exponent)
  unfolding read_exponent least_exponent most_exponent bias
  exponent_range = (omega (arith, scale_range.0, z_some), omega (arith, scale_range.1, z_most))

  pub regular_is : read_back b ≡ regular
  unfolding operand_of number_of_bits limbs_of_bits is_zero_kind double_precision
  regular_is = rw (ne_eqb D 0 (λ e. omega (arith, some)), counted_exponent_of (read_exponent b) exponent_range.0 exponent_range.1) refl

  -- the limb
  v_lt : v < 2 ^ 64
  v_lt = subst (λ (k : ℕ). v < 2 ^ k) (sum z z_most) (shl_lt z (64 - z) (size-lt D))
    where
      sum : (z : ℕ) → z ≤ 53 → z + (64 - z) ≡ 64
      sum z h = omega arith

  v_ge : 2 ^ 63 ≤ v
  v_ge = le_trans (le_of_eq (ap (λ (k : ℕ). 2 ^ k) (sum z z_some z_most) ∙ pow-add 2 (z - 1) (64 - z))) (mul-le-mul_right (2 ^ (64 - z)) (size_reaches D (z - 1) (less z z_some)))
    where
      sum : (z : ℕ) → 0 < z → z ≤ 53 → 63 ≡ z - 1 + (64 - z)
      sum z h k = omega arith

      less : (z : ℕ) → 0 < z → z - 1 < z
      less z h = omega arith

  v_split : v ≡ D * 2 ^ (64 - z - 11) * 2 ^ 11
  v_split = multiple D (64 - z) 11 (room z z_most)
    where
      room : (z : ℕ) → z ≤ 53 → 11 ≤ 64 - z
      room z h = omega arith

  value_is : value_of (v ∷ []) ≡ v
  unfolding value_in
  value_is = omega arith

  regular_formed : WellFormed regular
  unfolding least_precision most_precision limbs_for spare_bits
  regular_formed =
      record {
        least = omega arith;
        most = omega arith;
        count = refl;
        limb = below;
        zero = λ e. absurd (true≢false (sym e));
        regular = λ e. record { least = exponent_range.0; most = exponent_range.1; lead = rw value_is v_ge; spare = rw (value_is, v_split) (mul-mod_left (D * 2 ^ (64 - z - 11)) (2 ^ 11)) };
      }
    where
      below : Below (2 ^ 64) (v ∷ [])
      below zero = v_lt
      below (suc i) = omega arith

  mantissa_is : mantissa regular ≡ D * 2 ^ (64 - z - 11)
  unfolding mantissa spare_bits limbs_for
  mantissa_is = ap (λ (k : ℕ). k / 2 ^ 11) (value_is ∙ v_split) ∙ shl-shr (D * 2 ^ (64 - z - 11)) 11

  weights : 64 - z - 11 + (read_exponent b - 53) ≡ double_scale b - 1 + double_unit
  unfolding read_exponent double_unit bias
  weights = omega (arith, scale_range.0, z_some, z_most)

  regular_worth : amount 0 regular ≡ double_worth b * 2 ^ double_unit
  unfolding double_worth last_weight
  regular_worth =
      regular_amount regular refl ∙ ap (λ (k : ℕ). k * 2 ^ (read_exponent b - 53)) mantissa_is
      ∙ mul_assoc D (2 ^ (64 - z - 11)) (2 ^ (read_exponent b - 53)) ∙ ap (λ (k : ℕ). D * k) (sym (pow-add 2 (64 - z - 11) (read_exponent b - 53)))
      ∙ ap (λ (k : ℕ). D * 2 ^ k) weights ∙ ap (λ (k : ℕ). D * k) (pow-add 2 (double_scale b - 1) double_unit) ∙ sym (mul_assoc D (2 ^ (double_scale b - 1)) (2 ^ double_unit))

  -- "subnormals normalised": below 2^−1022 a double is refused
  under : exponent_field b ≡ 0 → read_exponent b < double_least
  unfolding read_exponent double_least double_scale bias
  under e = rw (eq-eqb (exponent_field b) 0 e) (omega (arith, size-le D 52 (low_digits b e)))

  module _ (normal : exponent_field b ≡ 0 → ⊥) where
    normal_digits : D ≡ 2 ^ 52 + fraction b
    unfolding double_digits
    normal_digits = rw (ne_eqb (exponent_field b) 0 normal) refl

    normal_scale : double_scale b ≡ exponent_field b
    unfolding double_scale
    normal_scale = rw (ne_eqb (exponent_field b) 0 normal) refl

    normal_size : z ≡ 53
    normal_size = size_is D 52 (omega (arith, normal_digits)) (digits_lt b)

    normal_mantissa : mantissa regular ≡ D
    normal_mantissa = mantissa_is ∙ ap (λ (k : ℕ). D * 2 ^ (64 - k - 11)) normal_size ∙ mul-one D

    normal_range : (double_least ≤ read_exponent b) × (read_exponent b ≤ double_most)
    unfolding read_exponent double_least double_most bias
    normal_range = (omega (arith, normal_size, scale_range.0), omega (arith, normal_size, scale_range.1))

    field_back : read_exponent b - double_least + 1 ≡ exponent_field b
    unfolding read_exponent double_least bias
    field_back = omega (arith, normal_size, normal_scale, scale_range.0)

    normal_packed : b < 2 ^ 64 → packed (double_sign b) (read_exponent b) (mantissa regular) ≡ b
    unfolding packed
    normal_packed h =
        ap (λ (k : ℕ). packed (double_sign b) (read_exponent b) k) normal_mantissa ∙ ap (λ (k : ℕ). sign_bit (double_sign b) + k * 2 ^ 52 + (D - 2 ^ 52)) field_back
        ∙ ap (λ (k : ℕ). sign_bit (double_sign b) + exponent_field b * 2 ^ 52 + k) rest ∙ joined_back b h
      where
        rest : D - 2 ^ 52 ≡ fraction b
        rest = omega (arith, normal_digits)

    normal_converted : (mode : Mode) → b < 2 ^ 64 → double_case (in_doubles mode (read_back b)) ≡ Ok (Exact (double b))
    normal_converted mode h =
        ap (λ (x : Operand). double_case (in_doubles mode x)) regular_is ∙ own_inside mode regular regular_formed refl refl normal_range.0 normal_range.1 ∙ ap (λ (k : ℕ). Ok (Exact (double k))) (normal_packed h)

  low_converted : (mode : Mode) → exponent_field b ≡ 0 → double_case (in_doubles mode (read_back b)) ≡ outside DoubleTooSmall
  low_converted mode e = ap (λ (x : Operand). double_case (in_doubles mode x)) regular_is ∙ own_under mode regular regular_formed refl refl (under e)

-- ---- a zero

module _ (b : ℕ) (empty : double_digits b ≡ 0) where
  abbrev nothing : Operand
  nothing = record { negative = double_sign b; is_zero = true; precision = 53; exponent = bias + 0; limbs = double_digits b * 2 ^ (64 - size (double_digits b)) ∷ [] }

  nothing_is : read_back b ≡ nothing
  unfolding operand_of number_of_bits limbs_of_bits is_zero_kind double_precision counted
  nothing_is = rw (eq-eqb (double_digits b) 0 empty) refl

  limb_none : double_digits b * 2 ^ (64 - size (double_digits b)) ≡ 0
  limb_none = ap (λ (k : ℕ). k * 2 ^ (64 - size (double_digits b))) empty ∙ zero-mul (2 ^ (64 - size (double_digits b)))

  nothing_formed : WellFormed nothing
  unfolding least_precision most_precision limbs_for
  nothing_formed = record { least = omega arith; most = omega arith; count = refl; limb = below; zero = λ e. omega arith; regular = λ e. absurd (true≢false e) }
    where
      below : Below (2 ^ 64) (double_digits b * 2 ^ (64 - size (double_digits b)) ∷ [])
      below zero = rw limb_none (omega arith)
      below (suc i) = omega arith

  nothing_worth : amount 0 nothing ≡ double_worth b * 2 ^ double_unit
  unfolding amount double_worth
  nothing_worth = sym (ap (λ (k : ℕ). k * 2 ^ (double_scale b - 1) * 2 ^ double_unit) empty ∙ ap (λ (k : ℕ). k * 2 ^ double_unit) (zero-mul (2 ^ (double_scale b - 1))) ∙ zero-mul (2 ^ double_unit))

  zero_converted : (mode : Mode) → b < 2 ^ 64 → double_case (in_doubles mode (read_back b)) ≡ Ok (Exact (double b))
  unfolding in_doubles converted_in double_case
  zero_converted mode h = ap (λ (x : Operand). double_case (in_doubles mode x)) nothing_is ∙ ap (λ (k : ℕ). Ok (Exact (double k))) (zero_back b h empty)

-- ---- every finite double

-- the number read from a double is of good form
pub read_formed : (b : ℕ) → is_finite b ≡ true → WellFormed (read_back b)
read_formed b f = elim (zero_or (double_digits b)) [ inl e ↦ subst WellFormed (sym (nothing_is b e)) (nothing_formed b e) | inr h ↦ subst WellFormed (sym (regular_is b f h)) (regular_formed b f h) ]

-- its sign and its worth are the double's: "Double to number is exact at precision 53"
pub read_worth : (b : ℕ) → is_finite b ≡ true → ((read_back b).precision ≡ 53) × ((read_back b).negative ≡ double_sign b) × (amount 0 (read_back b) ≡ double_worth b * 2 ^ double_unit)
read_worth b f = elim (zero_or (double_digits b)) [
  | inl e ↦ subst (λ (x : Operand). (x.precision ≡ 53) × (x.negative ≡ double_sign b) × (amount 0 x ≡ double_worth b * 2 ^ double_unit)) (sym (nothing_is b e)) (refl, refl, nothing_worth b e)
  | inr h ↦ subst (λ (x : Operand). (x.precision ≡ 53) × (x.negative ≡ double_sign b) × (amount 0 x ≡ double_worth b * 2 ^ double_unit)) (sym (regular_is b f h)) (refl, refl, regular_worth b f h)
]

-- what is of good form, and a mode, are accepted
converted_is : (mode : ℕ) (x : Operand) → mode ≤ 3 → WellFormed x → converted_of mode x ≡ double_case (in_doubles (mode_of mode) x)
unfolding converted_of accepted
converted_is mode x m g = rw (converted_accepted mode x m g) refl

some_digits : (b : ℕ) → (exponent_field b ≡ 0 → ⊥) → 0 < double_digits b
some_digits b k = elim (zero_or (double_digits b)) [ inl e ↦ absurd (normal_some b k e) | inr h ↦ h ]

-- a double that is normal or zero comes back from its number as itself, in every mode
pub comes_back : (mode b : ℕ) → mode ≤ 3 → b < 2 ^ 64 → is_finite b ≡ true → (exponent_field b ≡ 0 → ⊥) ⊎ (double_digits b ≡ 0) → converted_of mode (read_back b) ≡ Ok (Exact (double b))
comes_back mode b m h f (inl k) = converted_is mode (read_back b) m (read_formed b f) ∙ normal_converted b f (some_digits b k) k (mode_of mode) h
comes_back mode b m h f (inr e) = converted_is mode (read_back b) m (read_formed b f) ∙ zero_converted b e (mode_of mode) h

-- a subnormal one is refused 13
pub subnormal_refused : (mode b : ℕ) → mode ≤ 3 → is_finite b ≡ true → exponent_field b ≡ 0 → 0 < double_digits b → converted_of mode (read_back b) ≡ outside DoubleTooSmall
subnormal_refused mode b m f e h = converted_is mode (read_back b) m (read_formed b f) ∙ low_converted b f h (mode_of mode) e

read_is : (d : Float) → is_number d ≡ true → read_of 1 d ≡ Ok (number_of_bits (to_bits binary64 d))
unfolding read_of answered accepted
read_is d n = rw (no_refusal 1 d refl n) refl

limbs_are : (t : ℕ) (d : Float) → is_number d ≡ true → read_limbs (t ∷ []) d ≡ limbs_of_bits (to_bits binary64 d)
unfolding read_limbs left_by accepted
limbs_are t d n = rw (no_refusal 1 d refl n) refl

number_finite : (d : Float) → is_number d ≡ true → is_finite (to_bits binary64 d) ≡ true
unfolding is_number
number_finite d n = go (is_nan d) (is_finite (to_bits binary64 d)) n
  where
    go : (a f : Bool) → not (a || not f) ≡ true → f ≡ true
    go true f e = absurd (true≢false (sym e))
    go false true e = refl
    go false false e = absurd (true≢false (sym e))

-- as doubles, and as the two functions promise it
pub round_trip : (mode t : ℕ) (d : Float) → mode ≤ 3 → T (fits binary64 d) → is_number d ≡ true → (exponent_field (to_bits binary64 d) ≡ 0 → ⊥) ⊎ (double_digits (to_bits binary64 d) ≡ 0)
    → (x : Number) × ((read_of 1 d ≡ Ok x) × (converted_of mode (operand_of x (read_limbs (t ∷ []) d)) ≡ Ok (Exact d)))
unfolding double
round_trip mode t d m f n k =
    let b = to_bits binary64 d in
    let back : converted_of mode (operand_of (number_of_bits b) (read_limbs (t ∷ []) d)) ≡ Ok (Exact d) =
    ap (λ (l : List ℕ). converted_of mode (operand_of (number_of_bits b) l)) (limbs_are t d n)
    ∙ comes_back mode b m (to_bits-lt binary64 d f) (number_finite d n) k ∙ ap (λ (v : Float). Ok (Exact v)) (of_bits-to_bits binary64 d f) in
    (number_of_bits b, (read_is d n, back))
