-- The bits of a normal double read back: their sign, field and fraction, and what they are worth. Assumes nothing.
use mathlib.Core.Path.{◌≡◌, refl, sym, ap, ◌∙◌, subst}
use mathlib.Core.Bool.{Bool, true, false, not}
use Prim.Native.Nat.{ℕ, ◌+◌, ◌-◌, ◌*◌, ◌/◌, ◌%◌, ◌^◌, ◌≤◌, ◌<◌}
use native.Mathlib.Nat.{mul_assoc}
use native.Mathlib.Omega.{arith}
use lib.Dec.{T, ltb, leb}
use lib.Pow.{pow-add}
use lib.Ieee.{binary64, nan_bits, to_bits}
use lib.Ieee.Bits.{to_bits-of_bits, nan_bits_is, nan_bits_above}
use borrow.Author.Tests.{le-leb, lt-leb, le-ltb, lt-ltb, ne_eqb}
use Rattle.numbers.specs.Limits.{bias}
use Rattle.unpack.specs.Double.{double_least, double_most, double_sign, exponent_field, fraction, is_finite, double_digits, double_scale, double_worth, double_unit, sign_bit, packed, double}

-- ---- a sign's bit S, a field f and a fraction g

module _ (n : Bool) (f g : ℕ) (f_lt : f < 2048) (g_lt : g < 2 ^ 52) where
  abbrev joined : ℕ
  joined = sign_bit n + f * 2 ^ 52 + g

  pub field_at : exponent_field joined ≡ f
  unfolding exponent_field sign_bit
  field_at = go n
    where
      go : (n : Bool) → (sign_bit n + f * 2 ^ 52 + g) / 2 ^ 52 % 2 ^ 11 ≡ f
      go true = omega arith
      go false = omega arith

  pub fraction_at : fraction joined ≡ g
  unfolding fraction sign_bit
  fraction_at = go n
    where
      go : (n : Bool) → (sign_bit n + f * 2 ^ 52 + g) % 2 ^ 52 ≡ g
      go true = omega arith
      go false = omega arith

  pub sign_at : double_sign joined ≡ n
  unfolding double_sign sign_bit
  sign_at = go n
    where
      go : (n : Bool) → leb (2 ^ 63) (sign_bit n + f * 2 ^ 52 + g) ≡ n
      go true = le-leb (2 ^ 63) (2 ^ 63 + f * 2 ^ 52 + g) (omega arith)
      go false = lt-leb (2 ^ 63) (0 + f * 2 ^ 52 + g) (omega arith)

  pub joined_lt : joined < 2 ^ 64
  unfolding sign_bit
  joined_lt = go n
    where
      go : (n : Bool) → sign_bit n + f * 2 ^ 52 + g < 2 ^ 64
      go true = omega arith
      go false = omega arith

  -- below the field of ones no pattern is a NaN's
  pub no_nan : f < 2047 → nan_bits binary64 joined ≡ false
  unfolding sign_bit
  no_nan h = nan_bits_above binary64 joined ∙ go n
    where
      go : (n : Bool) → ltb (2047 * 2 ^ 52) ((sign_bit n + f * 2 ^ 52 + g) % 2 ^ 63) ≡ false
      go true = le-ltb (2047 * 2 ^ 52) ((2 ^ 63 + f * 2 ^ 52 + g) % 2 ^ 63) (omega arith)
      go false = le-ltb (2047 * 2 ^ 52) ((0 + f * 2 ^ 52 + g) % 2 ^ 63) (omega arith)

-- ---- a double and its bits

-- the bits of a double are those that it was stated by
pub bits_back : (b : ℕ) → b < 2 ^ 64 → nan_bits binary64 b ≡ false → to_bits binary64 (double b) ≡ b
unfolding double
bits_back b h e = to_bits-of_bits binary64 b h (subst (λ (t : Bool). T (not t)) (sym (sym (nan_bits_is binary64 b) ∙ e)) tt)

-- so two doubles are one only where their bits are
pub bits_one : (a b : ℕ) → a < 2 ^ 64 → b < 2 ^ 64 → nan_bits binary64 a ≡ false → nan_bits binary64 b ≡ false → double a ≡ double b → a ≡ b
bits_one a b ha hb na nb e = sym (bits_back a ha na) ∙ ap (to_bits binary64) e ∙ bits_back b hb nb

pub not_nan : {t : Bool} → t ≡ false → T (not t)
not_nan e = subst (λ (t : Bool). T (not t)) (sym e) tt

pub sign_le : (n : Bool) → sign_bit n ≤ 2 ^ 63
unfolding sign_bit
sign_le true = omega arith
sign_le false = omega arith

-- ---- the zero of a sign

zero_joined : (n : Bool) → sign_bit n + 0 * 2 ^ 52 + 0 ≡ sign_bit n
zero_joined n = omega arith

module _ (n : Bool) where
  pub zero_no_nan : nan_bits binary64 (sign_bit n) ≡ false
  zero_no_nan = subst (λ (b : ℕ). nan_bits binary64 b ≡ false) (zero_joined n) (no_nan n 0 0 (omega arith) (omega arith) (omega arith))

  pub zero_lt : sign_bit n < 2 ^ 64
  zero_lt = subst (λ (b : ℕ). b < 2 ^ 64) (zero_joined n) (joined_lt n 0 0 (omega arith) (omega arith))

  pub zero_sign : double_sign (sign_bit n) ≡ n
  zero_sign = subst (λ (b : ℕ). double_sign b ≡ n) (zero_joined n) (sign_at n 0 0 (omega arith) (omega arith))

  pub zero_field : exponent_field (sign_bit n) ≡ 0
  zero_field = subst (λ (b : ℕ). exponent_field b ≡ 0) (zero_joined n) (field_at n 0 0 (omega arith) (omega arith))

  zero_fraction : fraction (sign_bit n) ≡ 0
  zero_fraction = subst (λ (b : ℕ). fraction b ≡ 0) (zero_joined n) (fraction_at n 0 0 (omega arith) (omega arith))

  pub zero_digits : double_digits (sign_bit n) ≡ 0
  unfolding double_digits
  zero_digits = rw (zero_field, zero_fraction) refl

  pub zero_finite : is_finite (sign_bit n) ≡ true
  unfolding is_finite
  zero_finite = rw zero_field refl

  pub zero_worth : double_worth (sign_bit n) ≡ 0
  unfolding double_worth
  zero_worth = rw zero_digits (omega arith)

-- ---- normal doubles

module _ (n : Bool) (e d : ℕ) (lo : double_least ≤ e) (hi : e ≤ double_most) (first : 2 ^ 52 ≤ d) (few : d < 2 ^ 53) where
  abbrev field : ℕ
  field = e - double_least + 1

  abbrev rest : ℕ
  rest = d - 2 ^ 52

  field_lt : field < 2047
  unfolding double_least double_most bias
  field_lt = omega arith

  field_few : field < 2048
  field_few = omega (arith, field_lt)

  rest_lt : rest < 2 ^ 52
  rest_lt = omega arith

  pub packed_field : exponent_field (packed n e d) ≡ field
  unfolding packed
  packed_field = field_at n field rest field_few rest_lt

  pub packed_fraction : fraction (packed n e d) ≡ rest
  unfolding packed
  packed_fraction = fraction_at n field rest field_few rest_lt

  pub packed_sign : double_sign (packed n e d) ≡ n
  unfolding packed
  packed_sign = sign_at n field rest field_few rest_lt

  pub packed_lt : packed n e d < 2 ^ 64
  unfolding packed
  packed_lt = joined_lt n field rest field_few rest_lt

  pub packed_no_nan : nan_bits binary64 (packed n e d) ≡ false
  unfolding packed
  packed_no_nan = no_nan n field rest field_few rest_lt field_lt

  pub packed_finite : is_finite (packed n e d) ≡ true
  unfolding is_finite
  packed_finite = rw packed_field (lt-ltb field 2047 field_lt)

  some_field : (field ≡ 0 → ⊥)
  some_field e = omega arith

  pub packed_digits : double_digits (packed n e d) ≡ d
  unfolding double_digits
  packed_digits = rw (packed_field, packed_fraction, ne_eqb field 0 some_field) (omega arith)

  pub packed_scale : double_scale (packed n e d) ≡ field
  unfolding double_scale
  packed_scale = rw (packed_field, ne_eqb field 0 some_field) refl

  weight : field - 1 + double_unit ≡ e - 53
  unfolding double_least double_unit bias
  weight = omega arith

  -- the worth of the normal double: ± d × 2^(e − 53)
  pub packed_worth : double_worth (packed n e d) * 2 ^ double_unit ≡ d * 2 ^ (e - 53)
  unfolding double_worth
  packed_worth =
      rw (packed_digits, packed_scale)
      (mul_assoc d (2 ^ (field - 1)) (2 ^ double_unit) ∙ ap (λ (x : ℕ). d * x) (sym (pow-add 2 (field - 1) double_unit)) ∙ ap (λ (x : ℕ). d * 2 ^ x) weight)
