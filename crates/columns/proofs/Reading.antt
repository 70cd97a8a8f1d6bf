-- Laws of the first columns of an operand: a column more, none, all of them; and a column as the bits of one limb or two. Assumes nothing.
use mathlib.Core.Path.{◌≡◌, refl, sym, ap, ◌∙◌}
use mathlib.Core.List.{List, ◌∷◌}
use Prim.Native.Nat.{ℕ, zero, suc, ◌+◌, ◌-◌, ◌*◌, ◌/◌, ◌%◌, ◌^◌, ◌≤◌, ◌<◌}
use native.Mathlib.Decide.{dec_le}
use native.Mathlib.Nat.{div-lt_iff_lt-mul, div-div-eq-div-mul, div-add-mod', mul-div-mul_right, mul_assoc, zero-mod, zero-mul, mul-one, pow-zero, pow-succ'}
use native.Mathlib.Omega.{arith}
use lib.ListN.{length, get_or, get_or-eq_default}
use lib.Bits.{bit_or, or_comm, or_zero_r}
use lib.Pow.{pow-add, pow_pos, pow_mono, shl_lt}
use borrow.Author.Tests.{lt-ltb, le-ltb}
use Rattle.limb.proofs.Powers.{moved_twice}
use Rattle.limb.specs.Value.{value_of, value_in, Below}
use Rattle.limb.proofs.Value.{value_lt, base_pow}
use Rattle.shifts.proofs.Windows.{whole, across}
use Rattle.columns.specs.Column.{read_to, column_of, limb_below}

value_small : (l : List ℕ) → Below (2 ^ 64) l → value_of l < 2 ^ (64 * length l)
value_small l h = rw (base_pow (length l)) at (value_lt (2 ^ 64) l h)

module _ (gap : ℕ) (l : List ℕ) where
  -- without its last column a number read is the one read before
  read_less : (k : ℕ) → read_to (suc k) gap l / 2 ^ 64 ≡ read_to k gap l
  unfolding read_to
  read_less k =
      let v : ℕ = value_of l in
      let P : ℕ = 2 ^ (64 * length l + gap) in
      let e : v * 2 ^ (64 * suc k) ≡ v * 2 ^ (64 * k) * 2 ^ 64 = ap (λ (n : ℕ). v * 2 ^ n) (omega arith) ∙ moved_twice v (64 * k) 64 in
      div-div-eq-div-mul (v * 2 ^ (64 * suc k)) P (2 ^ 64) ∙ ap (λ (n : ℕ). n / (P * 2 ^ 64)) e ∙ mul-div-mul_right (v * 2 ^ (64 * k)) P (pow_pos 64)

  -- one column more
  pub read_more : (k : ℕ) → read_to (suc k) gap l ≡ read_to k gap l * 2 ^ 64 + column_of k gap l
  unfolding column_of
  read_more k = sym (div-add-mod' (read_to (suc k) gap l) (2 ^ 64)) ∙ ap (λ (n : ℕ). n * 2 ^ 64 + read_to (suc k) gap l % 2 ^ 64) (read_less k)

  pub column_lt : (k : ℕ) → column_of k gap l < 2 ^ 64
  unfolding column_of
  column_lt k = omega arith

  module _ (h : Below (2 ^ 64) l) where
    -- what begins `gap` digits below the top has so many fewer
    pub read_small : (k : ℕ) → read_to k gap l < 2 ^ (64 * k - gap)
    unfolding read_to
    read_small k =
        let n : ℕ = 64 * length l in
        let fits : value_of l * 2 ^ (64 * k) < 2 ^ (n + 64 * k) = shl_lt n (64 * k) (value_small l h) in
        let room : 2 ^ (n + 64 * k) ≤ 2 ^ (64 * k - gap + (n + gap)) = pow_mono {i = n + 64 * k} {j = 64 * k - gap + (n + gap)} (omega arith) in
        (div-lt_iff_lt-mul (pow_pos (n + gap))).1 (omega (arith, pow-add 2 (64 * k - gap) (n + gap)))

    pub read_lt : (k : ℕ) → read_to k gap l < 2 ^ (64 * k)
    read_lt k = omega (arith, read_small k, pow_mono {i = 64 * k - gap} {j = 64 * k} (omega arith))

    -- above the first digit nothing is read
    pub read_early : (k : ℕ) → 64 * k ≤ gap → read_to k gap l ≡ 0
    read_early k e =
        let none : 64 * k - gap ≡ 0 = omega arith in
        let one : read_to k gap l < 2 ^ 0 = rw none at (read_small k) in
        omega arith

-- fewer columns are the first of more
pub read_fewer : (k j gap : ℕ) (l : List ℕ) → read_to (k + j) gap l / 2 ^ (64 * j) ≡ read_to k gap l
unfolding read_to
read_fewer k j gap l =
    div-div-eq-div-mul (value_of l * 2 ^ (64 * (k + j))) (2 ^ (64 * length l + gap)) (2 ^ (64 * j))
    ∙ ap (λ (n : ℕ). n / (2 ^ (64 * length l + gap) * 2 ^ (64 * j))) (ap (λ (n : ℕ). value_of l * 2 ^ n) (both k j) ∙ ap (λ (n : ℕ). value_of l * n) (pow-add 2 (64 * k) (64 * j)) ∙ sym (mul_assoc (value_of l) (2 ^ (64 * k)) (2 ^ (64 * j))))
    ∙ mul-div-mul_right (value_of l * 2 ^ (64 * k)) (2 ^ (64 * length l + gap)) (pow_pos (64 * j))
  where
    both : (k j : ℕ) → 64 * (k + j) ≡ 64 * k + 64 * j
    both k j = omega arith

-- ---- a column as bits of limbs

-- m limbs of 0 put below
raised : ℕ → List ℕ → List ℕ
raised zero l = l
raised (suc m) l = 0 ∷ raised m l

raised_value : (B m : ℕ) (l : List ℕ) → value_in B (raised m l) ≡ value_in B l * B ^ m
unfolding raised value_in
raised_value B zero l = sym (ap (λ (n : ℕ). value_in B l * n) (pow-zero B) ∙ mul-one (value_in B l))
raised_value B (suc m) l = omega (arith, ap (λ (n : ℕ). B * n) (raised_value B m l), ap (λ (n : ℕ). value_in B l * n) (pow-succ' B m))

raised_low : (m q : ℕ) (l : List ℕ) → q < m → get_or (raised m l) q 0 ≡ 0
unfolding raised
raised_low zero q l h = absurd (omega arith)
raised_low (suc m) zero l h = refl
raised_low (suc m) (suc q) l h = raised_low m q l (omega arith)

raised_high : (m q : ℕ) (l : List ℕ) → m ≤ q → get_or (raised m l) q 0 ≡ get_or l (q - m) 0
unfolding raised
raised_high zero q l h = let e : q - 0 ≡ q = omega arith in rw e refl
raised_high (suc m) zero l h = absurd (omega arith)
raised_high (suc m) (suc q) l h = let e : suc q - suc m ≡ q - m = omega arith in rw e (raised_high m q l (omega arith))

raised_below : (m : ℕ) (l : List ℕ) → Below (2 ^ 64) l → Below (2 ^ 64) (raised m l)
unfolding raised
raised_below zero l h i = h i
raised_below (suc m) l h zero = omega arith
raised_below (suc m) l h (suc i) = raised_below m l h i

-- i limbs below the top, moved up i + 1 limbs, is the place of the limb above the top
limb_raised : (i : ℕ) (l : List ℕ) → get_or (raised (suc i) l) (length l) 0 ≡ limb_below i l
unfolding limb_below
limb_raised i l =
    elim (dec_le (suc i) (length l)) [
      | yes h ↦ raised_high (suc i) (length l) l h ∙ rw (lt-ltb i (length l) h) refl
      | no h ↦ raised_low (suc i) (length l) l (omega arith) ∙ rw (le-ltb i (length l) (omega arith)) refl
    ]

limb_raised_next : (i : ℕ) (l : List ℕ) → get_or (raised (suc (suc i)) l) (length l + 1) 0 ≡ limb_below i l
unfolding raised
limb_raised_next i l = let e : length l + 1 ≡ suc (length l) = omega arith in rw e (limb_raised i l)

limb_raised_top : (l : List ℕ) → get_or (raised 1 l) (length l + 1) 0 ≡ 0
unfolding raised
limb_raised_top l = let e : length l + 1 ≡ suc (length l) = omega arith in rw e (get_or-eq_default l 0 {n = length l} (omega arith))

module _ (l : List ℕ) (gap j : ℕ) (h : Below (2 ^ 64) l) where
  pub column_early : j < gap / 64 → 0 ≡ column_of j gap l
  unfolding column_of
  column_early e = sym (ap (λ (n : ℕ). n % 2 ^ 64) (read_early gap l h (suc j) (omega arith)) ∙ zero-mod (2 ^ 64))

  -- the whole limbs of the gap only change a column's place
  column_from : gap / 64 ≤ j → column_of j gap l ≡ value_of (raised (suc (j - gap / 64)) l) / 2 ^ (64 * length l + gap % 64) % 2 ^ 64
  unfolding column_of read_to
  column_from e =
      let v : ℕ = value_of l in
      let q : ℕ = gap / 64 in
      let t : ℕ = gap % 64 in
      let i : ℕ = j - q in
      let up : v * 2 ^ (64 * suc j) ≡ v * 2 ^ (64 * suc i) * 2 ^ (64 * q) = ap (λ (n : ℕ). v * 2 ^ n) (omega arith) ∙ moved_twice v (64 * suc i) (64 * q) in
      let down : 2 ^ (64 * length l + gap) ≡ 2 ^ (64 * length l + t) * 2 ^ (64 * q) = ap (λ (n : ℕ). 2 ^ n) (omega arith) ∙ pow-add 2 (64 * length l + t) (64 * q) in
      let raise : v * 2 ^ (64 * suc i) ≡ value_of (raised (suc i) l) = sym (raised_value (2 ^ 64) (suc i) l ∙ ap (λ (n : ℕ). v * n) (base_pow (suc i))) in
      ap (λ (n : ℕ). n % 2 ^ 64)
      (ap (λ (n : ℕ). n / 2 ^ (64 * length l + gap)) up ∙ ap (λ (n : ℕ). v * 2 ^ (64 * suc i) * 2 ^ (64 * q) / n) down ∙ mul-div-mul_right (v * 2 ^ (64 * suc i)) (2 ^ (64 * length l + t)) (pow_pos (64 * q))
      ∙ ap (λ (n : ℕ). n / 2 ^ (64 * length l + t)) raise)

  -- a gap of whole limbs: the column is a limb
  pub column_whole : gap / 64 ≤ j → gap % 64 ≡ 0 → limb_below (j - gap / 64) l ≡ column_of j gap l
  column_whole e z =
      let i : ℕ = j - gap / 64 in
      sym (limb_raised i l) ∙ whole (raised (suc i) l) (length l) (gap % 64) (omega arith) (raised_below (suc i) l h) z ∙ sym (column_from e)

  two_limbs : gap / 64 ≤ j → bit_or (limb_below (j - gap / 64) l / 2 ^ (gap % 64)) (get_or (raised (suc (j - gap / 64)) l) (length l + 1) 0 * 2 ^ (64 - gap % 64) % 2 ^ 64) ≡ column_of j gap l
  two_limbs e =
      let i : ℕ = j - gap / 64 in
      ap (λ (n : ℕ). bit_or (n / 2 ^ (gap % 64)) (get_or (raised (suc i) l) (length l + 1) 0 * 2 ^ (64 - gap % 64) % 2 ^ 64)) (sym (limb_raised i l))
      ∙ across (raised (suc i) l) (length l) (gap % 64) (omega arith) (raised_below (suc i) l h) ∙ sym (column_from e)

  -- the first column has the top limb's first digits
  pub column_top : gap / 64 ≤ j → j - gap / 64 ≡ 0 → limb_below (j - gap / 64) l / 2 ^ (gap % 64) ≡ column_of j gap l
  column_top e z =
      let x : ℕ = limb_below (j - gap / 64) l / 2 ^ (gap % 64) in
      let none : get_or (raised (suc (j - gap / 64)) l) (length l + 1) 0 ≡ 0 = ap (λ (n : ℕ). get_or (raised (suc n) l) (length l + 1) 0) z ∙ limb_raised_top l in
      let gone : get_or (raised (suc (j - gap / 64)) l) (length l + 1) 0 * 2 ^ (64 - gap % 64) % 2 ^ 64 ≡ 0 =
      ap (λ (n : ℕ). n * 2 ^ (64 - gap % 64) % 2 ^ 64) none ∙ ap (λ (n : ℕ). n % 2 ^ 64) (zero-mul (2 ^ (64 - gap % 64))) ∙ zero-mod (2 ^ 64) in
      sym (or_zero_r x) ∙ ap (λ (n : ℕ). bit_or x n) (sym gone) ∙ two_limbs e

  -- and any other the last digits of one limb and the first of the next
  pub column_across : gap / 64 ≤ j → (j - gap / 64 ≡ 0 → ⊥)
      → bit_or (limb_below (j - gap / 64 - 1) l * 2 ^ (64 - gap % 64) % 2 ^ 64) (limb_below (j - gap / 64) l / 2 ^ (gap % 64)) ≡ column_of j gap l
  column_across e nz =
      let i : ℕ = j - gap / 64 in
      let x : ℕ = limb_below i l / 2 ^ (gap % 64) in
      let up : suc (i - 1) ≡ i = omega arith in
      let high : limb_below (i - 1) l ≡ get_or (raised (suc i) l) (length l + 1) 0 = sym (limb_raised_next (i - 1) l) ∙ ap (λ (n : ℕ). get_or (raised (suc n) l) (length l + 1) 0) up in
      or_comm (limb_below (i - 1) l * 2 ^ (64 - gap % 64) % 2 ^ 64) x ∙ ap (λ (n : ℕ). bit_or x (n * 2 ^ (64 - gap % 64) % 2 ^ 64)) high ∙ two_limbs e
