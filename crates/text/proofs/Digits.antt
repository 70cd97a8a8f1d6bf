-- A digit's value and its byte undo each other; what each range of bytes is worth. Assumes nothing.
use Rattle.std.proofs.Common.{◌≡◌, ℕ, zero, suc, ◌+◌, ◌-◌, ◌<◌, ◌≤◌, Bool, true, false, ◌&&◌, ltb, List, [], ◌∷◌, ◌++◌, length, get_or, take, drop, ap, sym, refl, ◌∙◌, lt_of_not-le, add-one, arith, drop_of_length-le, drop-cons, ltb-true, le-ltb, lt-ltb, le-leb}
use Rattle.std.specs.List.{list_all}
use mathlib.Core.Bool.{false≢true}
use native.Mathlib.Decide.{dec_le}
use borrow.Author.Tests.{lt-leb}
use Rattle.text.specs.Digits.{digit_of, all_digits, glyph_of}

module _ (b : ℕ) where
  pub below : b < 48 → digit_of b ≡ 16
  unfolding digit_of
  below h = simp (lt-leb 48 b h, lt-leb 97 b (omega arith))

  pub decimal : 48 ≤ b → b ≤ 57 → digit_of b ≡ b - 48
  unfolding digit_of
  decimal g h = simp (le-leb 48 b g, le-leb b 57 h)

  pub between : 57 < b → b < 97 → digit_of b ≡ 16
  unfolding digit_of
  between g h = simp (le-leb 48 b (omega arith), lt-leb b 57 g, lt-leb 97 b h)

  pub letter : 97 ≤ b → b ≤ 102 → digit_of b ≡ b - 87
  unfolding digit_of
  letter g h = simp (le-leb 48 b (omega arith), lt-leb b 57 (omega arith), le-leb 97 b g, le-leb b 102 h)

  pub above : 102 < b → digit_of b ≡ 16
  unfolding digit_of
  above g = simp (le-leb 48 b (omega arith), lt-leb b 57 (omega arith), le-leb 97 b (omega arith), lt-leb b 102 g)

  pub glyph_decimal : b < 10 → glyph_of b ≡ 48 + b
  unfolding glyph_of
  glyph_decimal h = rw (lt-ltb b 10 h)

  pub glyph_letter : 10 ≤ b → glyph_of b ≡ 87 + b
  unfolding glyph_of
  glyph_letter h = rw (le-ltb b 10 h)

pub digit_le : (b : ℕ) → digit_of b ≤ 16
digit_le b =
    elim (dec_le 48 b) [
      | no h ↦ omega (arith, below b (lt_of_not-le h))
      | yes h ↦ elim (dec_le b 57) [
        | yes g ↦ omega (arith, decimal b h g)
        | no g ↦ elim (dec_le 97 b) [
          | no k ↦ omega (arith, between b (lt_of_not-le g) (lt_of_not-le k))
          | yes k ↦ elim (dec_le b 102) [
            | yes m ↦ omega (arith, letter b k m)
            | no m ↦ omega (arith, above b (lt_of_not-le m))
          ]
        ]
      ]
    ]

pub digit_glyph : (d : ℕ) → d < 16 → digit_of (glyph_of d) ≡ d
digit_glyph d h =
    elim (dec_le 10 d) [
      | yes g ↦ rw (glyph_letter d g, letter (87 + d) (omega arith) (omega arith)) (omega arith)
      | no g ↦ let k = lt_of_not-le g in rw (glyph_decimal d k, decimal (48 + d) (omega arith) (omega arith)) (omega arith)
    ]

pub glyph_digit : (b : ℕ) → digit_of b < 16 → glyph_of (digit_of b) ≡ b
glyph_digit b d =
    elim (dec_le 48 b) [
      | no h ↦ absurd (omega (arith, below b (lt_of_not-le h)))
      | yes h ↦ elim (dec_le b 57) [
        | yes g ↦ rw (decimal b h g, glyph_decimal (b - 48) (omega arith)) (omega arith)
        | no g ↦ elim (dec_le 97 b) [
          | no k ↦ absurd (omega (arith, between b (lt_of_not-le g) (lt_of_not-le k)))
          | yes k ↦ elim (dec_le b 102) [
            | yes m ↦ rw (letter b k m, glyph_letter (b - 87) (omega arith)) (omega arith)
            | no m ↦ absurd (omega (arith, above b (lt_of_not-le m)))
          ]
        ]
      ]
    ]

both : (a b : Bool) → a && b ≡ true → (a ≡ true) × (b ≡ true)
both true b h = (refl, h)
both false b h = absurd (false≢true h)

pub first_digit : (b : ℕ) (l : List ℕ) → all_digits (b ∷ l) ≡ true → digit_of b < 16
unfolding all_digits
first_digit b l h = ltb-true (digit_of b) 16 (both (ltb (digit_of b) 16) (all_digits l) h).0

pub rest_digits : (b : ℕ) (l : List ℕ) → all_digits (b ∷ l) ≡ true → all_digits l ≡ true
unfolding all_digits
rest_digits b l h = (both (ltb (digit_of b) 16) (all_digits l) h).1

pub digits_cons : (b : ℕ) (l : List ℕ) → digit_of b < 16 → all_digits l ≡ true → all_digits (b ∷ l) ≡ true
unfolding all_digits
digits_cons b l h g = simp (lt-ltb (digit_of b) 16 h, g)

pub digits_nil : all_digits [] ≡ true
unfolding all_digits
digits_nil = refl

pub digits_append : (xs ys : List ℕ) → all_digits xs ≡ true → all_digits ys ≡ true → all_digits (xs ++ ys) ≡ true
digits_append [] ys h g = g
digits_append (x ∷ xs) ys h g = digits_cons x (xs ++ ys) (first_digit x xs h) (digits_append xs ys (rest_digits x xs h) g)

pub digits_take : (n : ℕ) (l : List ℕ) → all_digits l ≡ true → all_digits (take n l) ≡ true
digits_take zero l h = digits_nil
digits_take (suc n) [] h = h
digits_take (suc n) (b ∷ l) h = digits_cons b (take n l) (first_digit b l h) (digits_take n l (rest_digits b l h))

pub digits_drop : (n : ℕ) (l : List ℕ) → all_digits l ≡ true → all_digits (drop n l) ≡ true
digits_drop zero l h = h
digits_drop (suc n) [] h = h
digits_drop (suc n) (b ∷ l) h = digits_drop n l (rest_digits b l h)

-- a test of every byte
pub every_byte : (l : List ℕ) → all_digits l ≡ list_all (λ b. ltb (digit_of b) 16) l
unfolding all_digits
every_byte [] = refl
every_byte (b ∷ l) = ap (λ (t : Bool). ltb (digit_of b) 16 && t) (every_byte l)
