-- Laws of `value_in`, over any base B, since omega does not get far with 2 ^ 64 written out. Assumes nothing.
use Rattle.std.proofs.Common.{◌≡◌, ℕ, zero, suc, ◌+◌, ◌*◌, ◌/◌, ◌%◌, ◌^◌, ◌<◌, List, [], ◌∷◌, ◌++◌, length, get_or, take, drop, set, sym, refl, ap, ◌∙◌, le_of_suc-le-suc, not-suc-le-zero, mod-eq_of_lt, mul-le-mul_left, zero-add, arith, get_or-drop, pow-add}
use native.Mathlib.Nat.{one-le-pow, add-mul-div_left, add-mul-mod_self_left, div-eq_of_lt, pow-succ', pow-zero}
use Rattle.limb.specs.Value.{value_in, Below}

module _ (B : ℕ) where
  pub value_nil : value_in B [] ≡ 0
  unfolding value_in
  value_nil = refl

  pub value_append : (xs ys : List ℕ) → value_in B (xs ++ ys) ≡ value_in B xs + B ^ length xs * value_in B ys
  unfolding value_in
  value_append [] ys = rw pow-zero (omega arith)
  value_append (x ∷ xs) ys = omega (arith, ap (λ (n : ℕ). B * n) (value_append xs ys), ap (λ (n : ℕ). n * value_in B ys) (pow-succ' B (length xs)))

  -- cut at any place
  pub value_split : (n : ℕ) (l : List ℕ) → value_in B l ≡ value_in B (take n l) + B ^ n * value_in B (drop n l)
  unfolding value_in
  value_split zero l = rw pow-zero (omega arith)
  value_split (suc n) [] = omega arith
  value_split (suc n) (x ∷ xs) = omega (arith, ap (λ (m : ℕ). B * m) (value_split n xs), ap (λ (m : ℕ). m * value_in B (drop n xs)) (pow-succ' B n))

  -- the same where the limbs below the cut are those of another list
  pub value_kept : (n : ℕ) (before after : List ℕ) → take n after ≡ take n before → value_in B after ≡ value_in B (take n before) + B ^ n * value_in B (drop n after)
  value_kept n before after e = value_split n after ∙ ap (λ (l : List ℕ). value_in B l + B ^ n * value_in B (drop n after)) e

  -- one limb more from the front; past the end the limb is 0
  pub value_take : (i : ℕ) (l : List ℕ) → value_in B (take (suc i) l) ≡ value_in B (take i l) + B ^ i * get_or l i 0
  unfolding value_in
  value_take zero [] = omega arith
  value_take (suc i) [] = omega arith
  value_take zero (x ∷ xs) = rw pow-zero (omega arith)
  value_take (suc i) (x ∷ xs) = omega (arith, ap (λ (m : ℕ). B * m) (value_take i xs), ap (λ (m : ℕ). m * get_or xs i 0) (pow-succ' B i))

  pub value_drop : (i : ℕ) (l : List ℕ) → value_in B (drop i l) ≡ get_or l i 0 + B * value_in B (drop (suc i) l)
  unfolding value_in
  value_drop zero [] = omega arith
  value_drop (suc i) [] = omega arith
  value_drop zero (x ∷ xs) = refl
  value_drop (suc i) (x ∷ xs) = value_drop i xs

  pub value_set : (l : List ℕ) (i v : ℕ) → i < length l → value_in B (set l i v) + B ^ i * get_or l i 0 ≡ value_in B l + B ^ i * v
  unfolding value_in
  value_set [] i v h = absurd (not-suc-le-zero h)
  value_set (x ∷ xs) zero v h = rw pow-zero (omega arith)
  value_set (x ∷ xs) (suc i) v h =
      omega (arith, ap (λ (m : ℕ). B * m) (value_set xs i v (le_of_suc-le-suc h)), ap (λ (m : ℕ). m * get_or xs i 0) (pow-succ' B i), ap (λ (m : ℕ). m * v) (pow-succ' B i))

  pub value_lt : (l : List ℕ) → Below B l → value_in B l < B ^ length l
  unfolding value_in
  value_lt [] h = rw pow-zero (omega arith)
  value_lt (x ∷ xs) h =
      let r = value_lt xs (λ i. h (suc i)) in
      omega (arith, h zero, mul-le-mul_left B r, pow-succ' B (length xs))

  pub below_part : (n : ℕ) (l : List ℕ) → Below B l → Below B (drop n l)
  below_part n l h i = rw (get_or-drop n l i 0) (h (n + i))

  pub value_take_lt : (n : ℕ) (l : List ℕ) → Below B l → value_in B (take n l) < B ^ n
  unfolding value_in
  value_take_lt zero l h = rw pow-zero (omega arith)
  value_take_lt (suc n) [] h = one-le-pow (suc n) B (h zero)
  value_take_lt (suc n) (x ∷ xs) h =
      let r = value_take_lt n xs (λ i. h (suc i)) in
      omega (arith, h zero, mul-le-mul_left B r, pow-succ' B n)

  -- the lowest digit of a number, and the others
  digit : (x n : ℕ) → x < B → x ≡ (x + B * n) % B
  digit x n h = sym (add-mul-mod_self_left x B n ∙ mod-eq_of_lt h)

  digits : (x n : ℕ) → x < B → n ≡ (x + B * n) / B
  digits x n h = sym (add-mul-div_left x n (omega arith) ∙ ap (λ (m : ℕ). m + n) (div-eq_of_lt h) ∙ zero-add n)

  base_pos : (n : ℕ) (l : List ℕ) → Below B l → 0 < B ^ n
  base_pos n l h = one-le-pow n B (omega (arith, h zero))

  -- the high limbs are the quotient by a power of the base, and the low limbs the remainder
  pub value_shr : (n : ℕ) (l : List ℕ) → Below B l → value_in B l / B ^ n ≡ value_in B (drop n l)
  value_shr n l h =
      ap (λ (m : ℕ). m / B ^ n) (value_split n l) ∙ add-mul-div_left (value_in B (take n l)) (value_in B (drop n l)) (base_pos n l h)
      ∙ ap (λ (m : ℕ). m + value_in B (drop n l)) (div-eq_of_lt (value_take_lt n l h)) ∙ zero-add _

  pub value_low : (n : ℕ) (l : List ℕ) → Below B l → value_in B l % B ^ n ≡ value_in B (take n l)
  value_low n l h =
      ap (λ (m : ℕ). m % B ^ n) (value_split n l) ∙ add-mul-mod_self_left (value_in B (take n l)) (B ^ n) (value_in B (drop n l))
      ∙ mod-eq_of_lt (value_take_lt n l h)

  -- limbs below the base are fixed by their value and their number
  pub value_unique : (xs ys : List ℕ) → Below B xs → Below B ys → length xs ≡ length ys → value_in B xs ≡ value_in B ys → xs ≡ ys
  unfolding value_in
  value_unique [] [] hx hy el e = refl
  value_unique [] (y ∷ ys) hx hy el e = absurd (omega arith)
  value_unique (x ∷ xs) [] hx hy el e = absurd (omega arith)
  value_unique (x ∷ xs) (y ∷ ys) hx hy el e =
      let first : x ≡ y = digit x (value_in B xs) (hx zero) ∙ ap (λ (m : ℕ). m % B) e ∙ sym (digit y (value_in B ys) (hy zero)) in
      let rest : value_in B xs ≡ value_in B ys = digits x (value_in B xs) (hx zero) ∙ ap (λ (m : ℕ). m / B) e ∙ sym (digits y (value_in B ys) (hy zero)) in
      let tail : xs ≡ ys = value_unique xs ys (λ i. hx (suc i)) (λ i. hy (suc i)) (omega arith) rest in
      cc

-- a power of the base, in bits
pub base_pow : (n : ℕ) → (2 ^ 64) ^ n ≡ 2 ^ (64 * n)
base_pow zero = refl
base_pow (suc n) = pow-succ' (2 ^ 64) n ∙ ap (λ (m : ℕ). 2 ^ 64 * m) (base_pow n) ∙ sym (pow-add 2 64 (64 * n)) ∙ ap (λ (m : ℕ). 2 ^ m) (omega arith)

-- ---- one limb

pub one_below : (x : ℕ) → x < 2 ^ 64 → Below (2 ^ 64) (x ∷ [])
one_below x h zero = h
one_below x h (suc i) = omega arith

pub one_written : (t : List ℕ) (v : ℕ) → length t ≡ 1 → set t 0 v ≡ v ∷ []
one_written [] v h = absurd (omega arith)
one_written (x ∷ []) v h = refl
one_written (x ∷ y ∷ t) v h = absurd (omega arith)
