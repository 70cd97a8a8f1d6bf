-- Whole numbers and their digits, over any number of digits: each gives the other back. Assumes nothing.
use Rattle.std.proofs.Common.{◌≡◌, ℕ, zero, suc, ◌+◌, ◌*◌, ◌/◌, ◌%◌, ◌^◌, ◌<◌, ◌≤◌, true, List, [], ◌∷◌, ◌++◌, length, get_or, take, drop, set, sym, refl, ap, ◌∙◌, le_of_suc-le-suc, not-suc-le-zero, add-zero, mul-le-mul_right, mod-lt, mod-eq_of_lt, pow-suc, div-add-mod', add-one, arith, length-append, take-suc}
use native.Mathlib.Nat.{pow-zero, pow-succ', one-le-pow, mod-one, div-eq_of_lt, mul-add-div_right, mul-add-mod_self_right, div-div-eq-div-mul}
use Rattle.text.specs.Digits.{digit_of, all_digits, glyph_of, worth, numeral}
use Rattle.text.proofs.Digits.{digit_glyph, glyph_digit, first_digit, rest_digits, digits_cons, digits_nil}

power_pos : (n : ℕ) → 0 < 16 ^ n
power_pos n = one-le-pow n 16 (omega arith)

pub length_numeral : (n v : ℕ) → length (numeral n v) ≡ n
unfolding numeral
length_numeral zero v = refl
length_numeral (suc n) v = ap suc (length_numeral n v)

pub numeral_digits : (n v : ℕ) → all_digits (numeral n v) ≡ true
unfolding numeral
numeral_digits zero v = digits_nil
numeral_digits (suc n) v = digits_cons _ _ (rw (digit_glyph (v / 16 ^ n % 16) (mod-lt _ (omega arith))) (mod-lt _ (omega arith))) (numeral_digits n v)

-- one digit more at the end
pub worth_snoc : (l : List ℕ) (b : ℕ) → worth (l ++ b ∷ []) ≡ worth l * 16 + digit_of b
unfolding worth
worth_snoc [] b = rw pow-zero (omega arith)
worth_snoc (a ∷ l) b = rw (length-append l (b ∷ []), worth_snoc l b) (omega (arith, ap (λ (m : ℕ). digit_of a * m) (more (length l))))
  where
    more : (n : ℕ) → 16 ^ (n + 1) ≡ 16 * 16 ^ n
    more n = rw (add-one n) (pow-succ' 16 n)

pub worth_lt : (l : List ℕ) → all_digits l ≡ true → worth l < 16 ^ length l
unfolding worth
worth_lt [] h = rw pow-zero (omega arith)
worth_lt (b ∷ l) h =
    let d : suc (digit_of b) ≤ 16 = first_digit b l h in
    omega (arith, worth_lt l (rest_digits b l h), mul-le-mul_right (16 ^ length l) d, pow-succ' 16 (length l))

-- the last digits of a number are those of its remainder
mod_more : (P v : ℕ) → 0 < P → v / P % 16 * P + v % P ≡ v % (16 * P)
mod_more P v h = sym (ap (λ (m : ℕ). m % (16 * P)) parts ∙ mul-add-mod_self_right (v / P / 16) (16 * P) (v / P % 16 * P + v % P) ∙ mod-eq_of_lt small)
  where
    parts : v ≡ v / P / 16 * (16 * P) + (v / P % 16 * P + v % P)
    parts = omega (arith, div-add-mod' v P, ap (λ (m : ℕ). m * P) (div-add-mod' (v / P) 16))

    small : v / P % 16 * P + v % P < 16 * P
    small = let d : suc (v / P % 16) ≤ 16 = mod-lt (v / P) (omega arith) in omega (arith, mod-lt v h, mul-le-mul_right P d)

pub worth_numeral : (n v : ℕ) → worth (numeral n v) ≡ v % 16 ^ n
unfolding worth numeral
worth_numeral zero v = rw pow-zero (sym (mod-one v))
worth_numeral (suc n) v = rw (digit_glyph (v / 16 ^ n % 16) (mod-lt _ (omega arith)), length_numeral n v, worth_numeral n v) (mod_more (16 ^ n) v (power_pos n) ∙ ap (λ (m : ℕ). v % m) (sym (pow-succ' 16 n)))

pub worth_of_numeral : (n v : ℕ) → v < 16 ^ n → worth (numeral n v) ≡ v
worth_of_numeral n v h = worth_numeral n v ∙ mod-eq_of_lt h

-- higher digits do not show
pub numeral_low : (n k v : ℕ) → numeral n (k * 16 ^ n + v) ≡ numeral n v
unfolding numeral
numeral_low zero k v = refl
numeral_low (suc n) k v = rw (shifted, mul-add-div_right (power_pos n) (k * 16) v, mul-add-mod_self_right k 16 (v / 16 ^ n), numeral_low n (k * 16) v)
  where
    shifted : k * 16 ^ suc n + v ≡ k * 16 * 16 ^ n + v
    shifted = omega (arith, ap (λ (m : ℕ). k * m) (pow-succ' 16 n))

pub numeral_of_worth : (l : List ℕ) → all_digits l ≡ true → numeral (length l) (worth l) ≡ l
unfolding worth numeral
numeral_of_worth [] h = refl
numeral_of_worth (b ∷ l) h =
    let g = rest_digits b l h in
    let d = first_digit b l h in
    rw (mul-add-div_right (power_pos (length l)) (digit_of b) (worth l), div-eq_of_lt (worth_lt l g), add-zero (digit_of b), mod-eq_of_lt d, glyph_digit b d, numeral_low (length l) (digit_of b) (worth l), numeral_of_worth l g)

-- one digit more is read: what passes 64 bits is dropped before or after
pub read_more : (s : List ℕ) (i value digit : ℕ) → i < length s → digit ≡ digit_of (get_or s i 0) → value ≡ worth (take i s) % 2 ^ 64 → (value * 16 % 2 ^ 64 + digit) % 2 ^ 64 ≡ worth (take (i + 1) s) % 2 ^ 64
read_more s i value digit h d e =
    rw (add-one i, take-suc s i 0 h, worth_snoc (take i s) (get_or s i 0), d, e) (dropped (worth (take i s)) (digit_of (get_or s i 0)))
  where
    dropped : (w b : ℕ) → (w % 2 ^ 64 * 16 % 2 ^ 64 + b) % 2 ^ 64 ≡ (w * 16 + b) % 2 ^ 64
    dropped w b = omega arith

-- a store at a place, from there on
pub drop_set : (l : List ℕ) (i v : ℕ) → i < length l → drop i (set l i v) ≡ v ∷ drop (suc i) l
drop_set [] i v h = absurd (not-suc-le-zero h)
drop_set (x ∷ l) zero v h = refl
drop_set (x ∷ l) (suc i) v h = drop_set l i v (le_of_suc-le-suc h)

-- one digit more is written, before the last n
pub write_more : (room : List ℕ) (i j n m value rest glyph : ℕ) → j < length room → i ≡ suc j → m ≡ suc n → glyph ≡ glyph_of (rest % 16) → rest ≡ value / 16 ^ n → drop i room ≡ numeral n value → drop j (set room j glyph) ≡ numeral m value
unfolding numeral
write_more room i j n m value rest glyph h a b g r e = rw (b, drop_set room j glyph h, g, r) (ap (λ (l : List ℕ). glyph_of (value / 16 ^ n % 16) ∷ l) (rw a at e))

pub rest_more : (n m value rest : ℕ) → m ≡ suc n → rest ≡ value / 16 ^ n → rest / 16 ≡ value / 16 ^ m
rest_more n m value rest b r = rw (b, r, pow-suc 16 n) (div-div-eq-div-mul value (16 ^ n) 16)
