-- Each return of the reading of a double is a case of the definitions. Assumes nothing.
use mathlib.Core.Path.{◌≡◌, refl, sym, ap, ◌∙◌, subst}
use mathlib.Core.Bool.{Bool, true, false, cond, true≢false}
use mathlib.Core.List.{List, [], ◌∷◌}
use Prim.Native.Nat.{ℕ, ◌+◌, ◌-◌, ◌*◌, ◌%◌, ◌^◌, ◌<◌}
use native.Mathlib.Nat.{zero-mul}
use native.Mathlib.Omega.{arith}
use lib.Dec.{T, eqb}
use lib.IntN.{ℤ, pos}
use lib.ListN.{length, set}
use lib.Pow.{shl_exact}
use lib.Ieee.{Float, nan, inf, fin, binary64, to_bits, is_nan, ne, size}
use lib.Ieee.Compare.{differs_from_itself, nan_differs}
use lib.Ieee.Digits.{size-lt}
use borrow.Author.Tests.{lt-ltb, eq-eqb, ne_eqb}
use Rattle.limb.proofs.Value.{one_written}
use Rattle.numbers.specs.Limits.{bias, limbs_for}
use Rattle.checks.specs.declared.Refusal.{Refusal}
use Rattle.checks.specs.declared.Kind.TheVariants.{Regular, Zero}
use Rattle.checks.specs.Number.{exponent_of}
use Rattle.checks.specs.Check.{accepted, answered, left_by, first_refusal, length_holds}
use Rattle.std.specs.Prelude.{Result, Ok, Err}
use Rattle.checks.specs.declared.Number.{Number}
use Rattle.checks.specs.declared.Rule.TheVariants.{Limbs, NoNumber}
use Rattle.checks.specs.declared.Place.TheVariants.{First, Target}
use Rattle.unpack.specs.Double.{double_precision, double_sign, exponent_field, is_finite, double_digits, double_scale}
use Rattle.unpack.specs.Read.{is_number, read_refusal, read_exponent, number_of_bits, limbs_of_bits, read_of, read_limbs}
use Rattle.unpack.specs.Steps.{read_as, bits_read, bits_limbs}

-- ---- bits

field_lt : (b : ℕ) → exponent_field b < 2048
unfolding exponent_field
field_lt b = omega arith

pub infinite_is : (b f : ℕ) → f ≡ exponent_field b → f ≡ 2047 → is_finite b ≡ false
unfolding is_finite
infinite_is b f e h = rw (← e, h) refl

pub finite_is : (b f : ℕ) → f ≡ exponent_field b → (f ≡ 2047 → ⊥) → is_finite b ≡ true
unfolding is_finite exponent_field
finite_is b f e h = lt-ltb (exponent_field b) 2047 (omega arith)

module _ (b : ℕ) (t : List ℕ) where
  pub infinite_read : is_finite b ≡ false → (Err (record { rule = NoNumber; place = First }) ≡ bits_read b) × (t ≡ bits_limbs t b)
  unfolding bits_read bits_limbs
  infinite_read h = rw h (refl, refl)

  pub finite_read : (x : Number) (u : List ℕ) → is_finite b ≡ true → x ≡ number_of_bits b → t ≡ limbs_of_bits b → (Ok x ≡ bits_read b) × (t ≡ bits_limbs u b)
  unfolding bits_read bits_limbs
  finite_read x u h e f = rw h (ap Ok e, f)

pub scale_lt : (b : ℕ) → double_scale b < 2048
unfolding double_scale
scale_lt b = go (eqb (exponent_field b) 0) (field_lt b)
  where
    go : (t : Bool) → exponent_field b < 2048 → cond t 1 (exponent_field b) < 2048
    go true h = omega arith
    go false h = h

pub zero_number : (b : ℕ) (r : Number) → double_digits b ≡ 0 → r ≡ read_as (double_sign b) Zero (pos 0) → r ≡ number_of_bits b
unfolding read_as number_of_bits double_precision
zero_number b r h e = rw (eq-eqb (double_digits b) 0 h) e

pub zero_limb : (b : ℕ) (t : List ℕ) → length t ≡ 1 → double_digits b ≡ 0 → set t 0 0 ≡ limbs_of_bits b
unfolding limbs_of_bits
zero_limb b t c h = one_written t 0 c ∙ ap (λ (n : ℕ). n ∷ []) (sym (ap (λ (n : ℕ). n * 2 ^ (64 - size (double_digits b))) h ∙ zero-mul _))

-- the digits, moved up by the zeros above them
module _ (b digits zeros : ℕ) (digits_is : digits ≡ double_digits b) (zeros_are : zeros + size digits ≡ 64) where
  pub regular_limb : (t : List ℕ) → length t ≡ 1 → set t 0 (digits * 2 ^ zeros % 2 ^ 64) ≡ limbs_of_bits b
  unfolding limbs_of_bits
  regular_limb t c =
      one_written t (digits * 2 ^ zeros % 2 ^ 64) c
      ∙ ap (λ (n : ℕ). n ∷ [])
      (shl_exact (size digits) zeros 64 (size-lt digits) (omega arith) ∙ ap (λ (n : ℕ). digits * 2 ^ n) (omega arith) ∙ ap (λ (n : ℕ). n * 2 ^ (64 - size n)) digits_is)

  pub regular_number : (scale : ℕ) (e : ℤ) (r : Number) → 0 < digits → scale ≡ double_scale b → e ≡ exponent_of (1099511626765 + scale - zeros) → r ≡ read_as (double_sign b) Regular e → r ≡ number_of_bits b
  unfolding read_as number_of_bits read_exponent double_precision bias
  regular_number scale e r some scale_is e_is f =
      f ∙ ap (read_as (double_sign b) Regular) (e_is ∙ ap exponent_of (count (size digits) zeros_are))
      ∙ rw (ne_eqb (double_digits b) 0 (λ h. nonzero h), ← digits_is, ← scale_is) refl
    where
      count : (z : ℕ) → zeros + z ≡ 64 → 1099511626765 + scale - zeros ≡ z + scale + (2 ^ 40 - 1075)
      count z h = omega arith

      nonzero : double_digits b ≡ 0 → ⊥
      nonzero h = omega (arith, digits_is)

-- ---- doubles

pub nan_is : (d : Float) → ne d d ≡ true → is_nan d ≡ true
unfolding is_nan
nan_is d h = ap is_nan (differs_from_itself d (subst T (sym h) tt))

pub no_nan_is : (d : Float) → ne d d ≡ false → is_nan d ≡ false
unfolding is_nan
no_nan_is nan h = absurd (true≢false (sym nan_differs ∙ h))
no_nan_is (inf s) h = refl
no_nan_is (fin s m e) h = refl

pub nan_number : (d : Float) → is_nan d ≡ true → is_number d ≡ false
unfolding is_number
nan_number d h = rw h refl

module _ (n : ℕ) (d : Float) where
  pub long_refusal : (n ≡ 1 → ⊥) → read_refusal n d ≡ Err (record { rule = Limbs; place = Target })
  unfolding read_refusal first_refusal length_holds double_precision limbs_for
  long_refusal h = rw (ne_eqb n 1 h) refl

  pub none_refusal : n ≡ 1 → is_number d ≡ false → read_refusal n d ≡ Err (record { rule = NoNumber; place = First })
  unfolding read_refusal first_refusal length_holds double_precision limbs_for
  none_refusal h k = rw (eq-eqb n 1 h, k) refl

  pub no_refusal : n ≡ 1 → is_number d ≡ true → read_refusal n d ≡ accepted
  unfolding read_refusal first_refusal length_holds double_precision limbs_for
  no_refusal h k = rw (eq-eqb n 1 h, k) refl

module _ (d : Float) (t : List ℕ) (r : Result Number Refusal) where
  pub refused_read : (q : Refusal) → read_refusal (length t) d ≡ Err q → r ≡ Err q → (r ≡ read_of (length t) d) × (t ≡ read_limbs t d)
  unfolding read_of read_limbs answered left_by
  refused_read q e k = rw e (k, refl)

  number_is : (f : Bool) → is_nan d ≡ false → is_finite (to_bits binary64 d) ≡ f → is_number d ≡ f
  unfolding is_number
  number_is true h e = rw (h, e) refl
  number_is false h e = rw (h, e) refl

  finite_double : (u : List ℕ) → length t ≡ 1 → is_number d ≡ true → is_finite (to_bits binary64 d) ≡ true → (r ≡ bits_read (to_bits binary64 d)) × (u ≡ bits_limbs t (to_bits binary64 d)) → (r ≡ read_of (length t) d) × (u ≡ read_limbs t d)
  unfolding read_of read_limbs answered left_by bits_read bits_limbs accepted
  finite_double u c h e k = rw (no_refusal (length t) d c h) (rw e at k)

  infinite_double : (u : List ℕ) → length t ≡ 1 → is_number d ≡ false → is_finite (to_bits binary64 d) ≡ false → (r ≡ bits_read (to_bits binary64 d)) × (u ≡ bits_limbs t (to_bits binary64 d)) → (r ≡ read_of (length t) d) × (u ≡ read_limbs t d)
  unfolding read_of read_limbs answered left_by bits_read bits_limbs
  infinite_double u c h e k = rw (none_refusal (length t) d c h) (rw e at k)

  -- bits that are no NaN's
  pub bits_double : (u : List ℕ) → length t ≡ 1 → is_nan d ≡ false → (r ≡ bits_read (to_bits binary64 d)) × (u ≡ bits_limbs t (to_bits binary64 d)) → (r ≡ read_of (length t) d) × (u ≡ read_limbs t d)
  bits_double u c h k = go (is_finite (to_bits binary64 d)) refl
    where
      go : (f : Bool) → is_finite (to_bits binary64 d) ≡ f → (r ≡ read_of (length t) d) × (u ≡ read_limbs t d)
      go true e = finite_double u c (number_is true h e) e k
      go false e = infinite_double u c (number_is false h e) e k
