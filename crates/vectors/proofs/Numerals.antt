-- What a padded hexadecimal hole writes of a number that needs no more digits is the number's numeral. Assumes nothing.
use Rattle.std.proofs.Common.{◌≡◌, ℕ, zero, suc, ◌+◌, ◌-◌, ◌*◌, ◌/◌, ◌%◌, ◌^◌, ◌<◌, ◌≤◌, Bool, true, false, cond, List, [], ◌∷◌, ◌++◌, length, sym, refl, ap, subst, ◌∙◌, pow-add, div-one, arith, lt_of_not-le}
use native.Mathlib.Nat.{pow-zero, pow-succ', one-le-pow, div-eq_of_lt, div-div-eq-div-mul}
use native.Mathlib.Decide.{dec_le}
use mathlib.Core.List.{append_assoc, append-nil}
use lib.ListN.{replicate}
use lib.Dec.{eqb}
use borrow.Author.Tests.{eq-eqb, ne_eqb}
use Rattle.std.proofs.Math.Nat.{div-lt_iff_lt-mul}
use Rattle.std.specs.Fmt.{digits, char_count, digits_onto, radix_digits, padded_integral, format_spec}
use Rattle.std.proofs.DigitsParse.{digits_onto-nil}
use Rattle.text.specs.Digits.{glyph_of, numeral}

power_is : (e : ℕ) → 2 ^ (4 * e) ≡ 16 ^ e
power_is zero = refl
power_is (suc e) = ap (λ (m : ℕ). 2 ^ m) {x = 4 * suc e} {y = 4 + 4 * e} (omega arith) ∙ pow-add 2 4 (4 * e) ∙ ap (λ (m : ℕ). 16 * m) (power_is e) ∙ sym (pow-succ' 16 e)

pub fits_below : (d low : ℕ) → 0 < d → low / 2 ^ (4 * (d - 1)) < 16 → low < 16 ^ d
fits_below zero low h g = absurd (omega arith)
fits_below (suc e) low h g = rw (pow-succ' 16 e) ((div-lt_iff_lt-mul {k = 16 ^ e} {x = low} {y = 16} (one-le-pow e 16 (omega arith))).0 (subst (λ (m : ℕ). low / m < 16) (ap (λ (m : ℕ). 2 ^ (4 * m)) {x = suc e - 1} {y = e} (omega arith) ∙ power_is e) g))

-- the last digit apart
numeral_snoc : (n v : ℕ) → numeral (suc n) v ≡ numeral n (v / 16) ++ glyph_of (v % 16) ∷ []
unfolding numeral
numeral_snoc zero v = rw (pow-zero, div-one v) refl
numeral_snoc (suc n) v = rw (pow-succ' 16 n, sym (div-div-eq-div-mul v 16 (16 ^ n)), numeral_snoc n v) refl

zeros : (n : ℕ) → numeral n 0 ≡ replicate n 48
unfolding numeral glyph_of
zeros zero = refl
zeros (suc n) = rw (div-eq_of_lt (one-le-pow n 16 (omega arith)), zeros n) refl

module _ (k v : ℕ) (acc : List ℕ) where
  by_test : (t : Bool) → eqb (v / 16) 0 ≡ t → digits_onto (suc k) 16 false v acc ≡ cond t (glyph_of (v % 16) ∷ acc) (digits_onto k 16 false (v / 16) (glyph_of (v % 16) ∷ acc))
  unfolding glyph_of
  by_test t e = ap (λ (b : Bool). cond b (glyph_of (v % 16) ∷ acc) (digits_onto k 16 false (v / 16) (glyph_of (v % 16) ∷ acc))) e

positive : (m v : ℕ) → 16 ≤ v → v < 16 ^ suc m → 0 < m
positive zero v g f = absurd (omega (arith, f, pow-succ' 16 0, pow-zero))
positive (suc m) v g f = omega arith

spread : (k n v : ℕ) (acc : List ℕ) → 0 < n → n ≤ k → v < 16 ^ n → replicate (n + length acc - length (digits_onto k 16 false v acc)) 48 ++ digits_onto k 16 false v acc ≡ numeral n v ++ acc
spread k zero v acc h g f = absurd (omega arith)
spread zero (suc m) v acc h g f = absurd (omega arith)
spread (suc k) (suc m) v acc h g f =
    elim (dec_le 16 v) [
      | no below ↦
          let none : v / 16 ≡ 0 = omega (arith, lt_of_not-le below) in
          let count : suc m + length acc - suc (length acc) ≡ m = omega arith in
          rw (by_test k v acc true (eq-eqb _ 0 none), count, numeral_snoc m v, none, zeros m) (sym (append_assoc (replicate m 48) (glyph_of (v % 16) ∷ []) acc))
      | yes more ↦
          let some : v / 16 ≡ 0 → ⊥ = (λ e. omega arith) in
          let left : v / 16 < 16 ^ m = omega (arith, f, pow-succ' 16 m) in
          let first : 0 < m = positive m v more f in
          let count : suc m + length acc ≡ m + suc (length acc) = omega arith in
          rw (by_test k v acc false (ne_eqb _ 0 some), count, numeral_snoc m v) (spread k m (v / 16) (glyph_of (v % 16) ∷ acc) first (omega arith) left ∙ sym (append_assoc (numeral m (v / 16)) (glyph_of (v % 16) ∷ []) acc))
    ]

module _ (n : ℕ) (ds : List ℕ) where
  padded_by : padded_integral (format_spec 32 0 4 n (2 ^ 64 - 1)) false [] ds ≡ replicate (n - length ds) 48 ++ ds
  unfolding padded_integral char_count
  padded_by = ap (λ (m : ℕ). replicate m 48 ++ (ds ++ [])) {x = n - length ds - 0 - 0} {y = n - length ds} (omega arith) ∙ ap (λ (l : List ℕ). replicate (n - length ds) 48 ++ l) (append-nil ds)

spread_word : (k n v : ℕ) → 0 < n → n ≤ k → v < 16 ^ n → replicate (n - length (digits_onto k 16 false v [])) 48 ++ digits_onto k 16 false v [] ≡ numeral n v
spread_word k n v h g f =
    let count : n + length {A = ℕ} [] ≡ n = omega arith in
    subst (λ (m : ℕ). replicate (m - length (digits_onto k 16 false v [])) 48 ++ digits_onto k 16 false v [] ≡ numeral n v) count (spread k n v [] h g f ∙ append-nil (numeral n v))

spread_digits : (k n v : ℕ) (ds : List ℕ) → digits_onto k 16 false v [] ≡ ds → 0 < n → n ≤ k → v < 16 ^ n → replicate (n - length ds) 48 ++ ds ≡ numeral n v
spread_digits k n v ds e h g f = subst (λ (l : List ℕ). replicate (n - length l) 48 ++ l ≡ numeral n v) e (spread_word k n v h g f)

pub padded_numeral : (n v : ℕ) → 0 < n → n ≤ 16 → v < 16 ^ n → padded_integral (format_spec 32 0 4 n (2 ^ 64 - 1)) false [] (radix_digits 16 false v) ≡ numeral n v
padded_numeral n v h g f = padded_by n (digits 16 false v) ∙ spread_digits 64 n v (digits 16 false v) (digits_onto-nil 16 false v) h (omega arith) f
