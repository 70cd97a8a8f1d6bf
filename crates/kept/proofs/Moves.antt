-- Values of a target that moves by bits, limb by limb. Laws of lists stand over any base B. Assumes nothing.
use mathlib.Core.Path.{◌≡◌, refl, sym, ap, ◌∙◌, subst}
use mathlib.Core.List.{List}
use Prim.Native.Nat.{ℕ, suc, ◌+◌, ◌-◌, ◌*◌, ◌/◌, ◌%◌, ◌^◌, ◌≤◌, ◌<◌}
use native.Mathlib.Nat.{le_trans, le_of_eq, mul-le-mul_right, add-mul-div_left, add-mul-mod_self_left, mod-eq_of_lt, mod-lt, div-add-mod', mul_assoc, mul_comm, pow-zero, pow-succ', div-mul-le_self, lt_of_le_of_lt, mul-le-mul_left, mul-mod_left, add-zero, add_comm, le_of_lt, lt_of_lt_of_le, mul-suc}
use native.Mathlib.Numerals.{add-one}
use native.Mathlib.Omega.{arith}
use lib.Bits.{bit_or, or_shifted, or_shifted_r, or_lt}
use lib.Count.{count_leading_zeros, leading_top}
use lib.ListN.{length, get_or, take, drop, set}
use lib.Pow.{pow_pos, pow_mono, pow-add, mod-pow-add, shl-shr, shl_lt, shr_lt}
use lib.Seq.{drop-length, take-set-le, drop-set-lt, get_or-set_same, get_or-set_other}
use Rattle.limb.specs.Value.{value_in}
use Rattle.limb.proofs.Value.{value_nil, value_take, value_drop, value_set}

-- ---- one limb

-- moved up by k bits with `up` entering below: what leaves at the top counts 2 ^ 64
module _ (limb up k : ℕ) (some : 0 < k) (less : k < 64) (lt : limb < 2 ^ 64) (few : up < 2 ^ k) where
  abbrev j : ℕ
  j = 64 - k

  whole_limb : 2 ^ 64 ≡ 2 ^ j * 2 ^ k
  whole_limb = let e : 64 ≡ j + k = omega arith in ap (λ (n : ℕ). 2 ^ n) e ∙ pow-add 2 j k

  kept : limb * 2 ^ k % 2 ^ 64 ≡ limb % 2 ^ j * 2 ^ k
  kept =
      let e : 64 ≡ j + k = omega arith in
      ap (λ (n : ℕ). limb * 2 ^ k % 2 ^ n) e ∙ mod-pow-add (limb * 2 ^ k) j k ∙ ap (λ (m : ℕ). m % 2 ^ j * 2 ^ k + limb * 2 ^ k % 2 ^ k) (shl-shr limb k)
      ∙ ap (λ (m : ℕ). limb % 2 ^ j * 2 ^ k + m) (mul-mod_left limb (2 ^ k)) ∙ add-zero _

  pub limb_raised : bit_or (limb * 2 ^ k % 2 ^ 64) up + 2 ^ 64 * (limb / 2 ^ j) ≡ limb * 2 ^ k + up
  limb_raised =
      ap (λ (m : ℕ). bit_or m up + 2 ^ 64 * (limb / 2 ^ j)) kept ∙ ap (λ (m : ℕ). m + 2 ^ 64 * (limb / 2 ^ j)) (or_shifted (limb % 2 ^ j) k up few)
      ∙ ap (λ (m : ℕ). limb % 2 ^ j * 2 ^ k + up + m * (limb / 2 ^ j)) whole_limb
      ∙ joined (limb / 2 ^ j) (limb % 2 ^ j) (2 ^ j) (2 ^ k) (div-add-mod' limb (2 ^ j))
    where
      joined : (a b p q : ℕ) → a * p + b ≡ limb → b * q + up + p * q * a ≡ limb * q + up
      joined a b p q e = omega (arith, ap (λ (m : ℕ). m * q) e)

  pub raised_lt : bit_or (limb * 2 ^ k % 2 ^ 64) up < 2 ^ 64
  raised_lt = or_lt 64 (limb * 2 ^ k % 2 ^ 64) up (mod-lt _ (pow_pos 64)) (lt_of_lt few)
    where
      lt_of_lt : up < 2 ^ k → up < 2 ^ 64
      lt_of_lt h = lt_of_lt_of_le h (pow_mono (le_of_lt less))

  pub top_few : limb / 2 ^ (64 - k) < 2 ^ k
  top_few = let e : 64 ≡ k + (64 - k) = omega arith in shr_lt k (64 - k) (subst (λ (n : ℕ). limb < 2 ^ n) e lt)

-- moved down by one bit with the bit `down` entering at the top: what leaves is the lowest bit
pub limb_lowered : (limb down : ℕ) → limb < 2 ^ 64 → down ≤ 1 → 2 * bit_or (limb / 2) (down * 2 ^ 63 % 2 ^ 64) + limb % 2 ≡ limb + 2 ^ 64 * down
limb_lowered limb down lt one =
    let e : down * 2 ^ 63 % 2 ^ 64 ≡ down * 2 ^ 63 = omega arith in
    let f : bit_or (limb / 2) (down * 2 ^ 63) ≡ down * 2 ^ 63 + limb / 2 = or_shifted_r down 63 (limb / 2) (omega arith) in
    rw (e, f) (omega arith)

-- the zeros above its first digit bring it to the top
pub zeros_top : (x : ℕ) → 0 < x → x < 2 ^ 64 → (count_leading_zeros 64 x < 64) × (2 ^ 63 ≤ x * 2 ^ count_leading_zeros 64 x) × (x * 2 ^ count_leading_zeros 64 x < 2 ^ 64)
zeros_top x h lt =
    let top = leading_top 64 x h lt in
    let z = count_leading_zeros 64 x in
    let k = top.0 in
    let e : k + z ≡ 63 = omega (arith, top.1) in
    let f : suc k + z ≡ 64 = omega (arith, top.1) in (
      omega (arith, top.1),
      le_trans (le_of_eq (ap (λ (n : ℕ). 2 ^ n) (sym e) ∙ pow-add 2 k z)) (mul-le-mul_right (2 ^ z) top.2),
      subst (λ (n : ℕ). x * 2 ^ z < 2 ^ n) f (shl_lt {a = x} (suc k) z top.3),
    )

-- ---- a list of limbs

module _ (B : ℕ) where
  -- one turn upwards: limb i becomes n, and top goes on
  pub turn_up : (t o : List ℕ) (i up n top K G : ℕ) → i < length t → n + B * top ≡ get_or o i 0 * K + up
      → value_in B (take i t) + B ^ i * up ≡ value_in B (take i o) * K + G
      → value_in B (take (i + 1) (set t i n)) + B ^ (i + 1) * top ≡ value_in B (take (i + 1) o) * K + G
  turn_up t o i up n top K G h e inv =
      rw (add-one i, value_take B i (set t i n), value_take B i o, take-set-le i t i n (omega arith), get_or-set_same t i n 0 h, pow-succ' B i)
      (omega (arith, ap (λ (m : ℕ). B ^ i * m) e))

  pub turn_lt : (t : List ℕ) (i n : ℕ) → i < length t → n < B → value_in B (take i t) < B ^ i → value_in B (take (i + 1) (set t i n)) < B ^ (i + 1)
  turn_lt t i n h l inv =
      rw (add-one i, value_take B i (set t i n), take-set-le i t i n (omega arith), get_or-set_same t i n 0 h, pow-succ' B i)
      (let k = mul-le-mul_left (B ^ i) l in omega (arith, mul_comm B (B ^ i), mul-suc (B ^ i) n))

  -- one turn downwards
  pub turn_down : (t o : List ℕ) (i down n low P : ℕ) → i < length t → 2 * n + low ≡ get_or o i 0 + B * down
      → value_in B (drop (suc i) t) * 2 + down ≡ value_in B (drop (suc i) o) + P
      → value_in B (drop i (set t i n)) * 2 + low ≡ value_in B (drop i o) + B * P
  turn_down t o i down n low P h e inv =
      rw (value_drop B i (set t i n), value_drop B i o, get_or-set_same t i n 0 h, drop-set-lt (suc i) t i n (omega arith))
      (omega (arith, ap (λ (m : ℕ). B * m) inv))

  -- no turn yet
  pub none_up : (t o : List ℕ) (K G : ℕ) → value_in B (take 0 t) + B ^ 0 * G ≡ value_in B (take 0 o) * K + G
  none_up t o K G = rw (pow-zero, value_nil) (omega arith)

  pub none_lt : (t : List ℕ) → value_in B (take 0 t) < B ^ 0
  none_lt t = rw (pow-zero, value_nil) (omega arith)

  pub none_down : (o : List ℕ) → value_in B (drop (length o) o) * 2 + 1 ≡ value_in B (drop (length o) o) + B ^ (length o - length o)
  none_down o = let e : length o - length o ≡ 0 = omega arith in rw (e, drop-length, value_nil, pow-zero) (omega arith)

  -- the turn downwards from limb i to the limb k below it
  pub turn_down_at : (t o : List ℕ) (i k down n low L : ℕ) → suc k ≡ i → i ≤ L → k < length t → 2 * n + low ≡ get_or o k 0 + B * down
      → value_in B (drop i t) * 2 + down ≡ value_in B (drop i o) + B ^ (L - i)
      → value_in B (drop k (set t k n)) * 2 + low ≡ value_in B (drop k o) + B ^ (L - k)
  turn_down_at t o i k down n low L s l h e inv =
      let f : L - k ≡ suc (L - i) = omega arith in
      rw (f, pow-succ' B (L - i))
      (turn_down t o k down n low (B ^ (L - i)) h e (subst (λ (m : ℕ). value_in B (drop m t) * 2 + down ≡ value_in B (drop m o) + B ^ (L - i)) (sym s) inv))

  pub below_stays : (t o : List ℕ) (i k n : ℕ) → suc k ≡ i → ((j : ℕ) → j < i → get_or t j 0 ≡ get_or o j 0) → (j : ℕ) → j < k → get_or (set t k n) j 0 ≡ get_or o j 0
  below_stays t o i k n s h j l = get_or-set_other t k j n 0 (λ e. clash e) ∙ h j (omega arith)
    where
      clash : j ≡ k → ⊥
      clash e = omega arith

  -- the other limbs stay
  pub above_stays : (t o : List ℕ) (i n : ℕ) → ((k : ℕ) → i ≤ k → get_or t k 0 ≡ get_or o k 0) → (k : ℕ) → i + 1 ≤ k → get_or (set t i n) k 0 ≡ get_or o k 0
  above_stays t o i n h k l = get_or-set_other t i k n 0 (λ e. clash e) ∙ h k (omega arith)
    where
      clash : k ≡ i → ⊥
      clash e = omega arith

-- what is left of n once P times something is taken off
pub low_of : (P v up n : ℕ) → v < P → v + P * up ≡ n → v ≡ n % P
low_of P v up n h e = sym (ap (λ (m : ℕ). m % P) (sym e) ∙ add-mul-mod_self_left v P up ∙ mod-eq_of_lt h)

half_of : (v d n : ℕ) → d ≤ 1 → v * 2 + d ≡ n → v ≡ n / 2
half_of v d n h e = omega arith

pub halved : (B : ℕ) (t o : List ℕ) (d L : ℕ) → d ≤ 1 → value_in B (drop 0 t) * 2 + d ≡ value_in B (drop 0 o) + B ^ (L - 0) → value_in B t ≡ (B ^ L + value_in B o) / 2
halved B t o d L h e = let s : L - 0 ≡ L = omega arith in half_of (value_in B t) d (B ^ L + value_in B o) h ((rw s at e) ∙ add_comm _ _)

-- ---- the lowest limb

module _ (l : List ℕ) (s : ℕ) (less : s < 64) where
  abbrev r : ℕ
  r = value_in (2 ^ 64) (drop 1 l)

  apart : value_in (2 ^ 64) l ≡ get_or l 0 0 + 2 ^ s * (2 ^ (64 - s) * r)
  apart =
      let e : 64 ≡ s + (64 - s) = omega arith in
      value_drop (2 ^ 64) 0 l ∙ ap (λ (m : ℕ). get_or l 0 0 + m * r) (ap (λ (n : ℕ). 2 ^ n) e ∙ pow-add 2 s (64 - s)) ∙ ap (λ (m : ℕ). get_or l 0 0 + m) (mul_assoc (2 ^ s) (2 ^ (64 - s)) r)

  pub shifted : value_in (2 ^ 64) l / 2 ^ s ≡ get_or l 0 0 / 2 ^ s + 2 ^ (64 - s) * r
  shifted = ap (λ (m : ℕ). m / 2 ^ s) apart ∙ add-mul-div_left (get_or l 0 0) (2 ^ (64 - s) * r) (pow_pos s)

  -- the last kept digit stands in it
  pub last_digit : get_or l 0 0 / 2 ^ s % 2 ≡ value_in (2 ^ 64) l / 2 ^ s % 2
  last_digit =
      let e : 64 - s ≡ 1 + (63 - s) = omega arith in
      sym (ap (λ (m : ℕ). m % 2) (shifted ∙ ap (λ (m : ℕ). get_or l 0 0 / 2 ^ s + m * r) (ap (λ (n : ℕ). 2 ^ n) e ∙ pow-add 2 1 (63 - s)) ∙ ap (λ (m : ℕ). get_or l 0 0 / 2 ^ s + m) (mul_assoc 2 (2 ^ (63 - s)) r))
      ∙ add-mul-mod_self_left (get_or l 0 0 / 2 ^ s) 2 (2 ^ (63 - s) * r))

  -- without its s lowest bits
  pub cleared : 0 < length l → get_or l 0 0 < 2 ^ 64 → value_in (2 ^ 64) (set l 0 (get_or l 0 0 / 2 ^ s * 2 ^ s % 2 ^ 64)) ≡ value_in (2 ^ 64) l / 2 ^ s * 2 ^ s
  cleared some lt =
      let x = get_or l 0 0 in
      let y = x / 2 ^ s * 2 ^ s in
      let small : y % 2 ^ 64 ≡ y = mod-eq_of_lt (lt_of_le_of_lt (div-mul-le_self x (2 ^ s)) lt) in
      rw small (split x y (value_in (2 ^ 64) l) (value_in (2 ^ 64) (set l 0 y)) (2 ^ (64 - s) * r) (2 ^ s) (x / 2 ^ s) refl (value_set (2 ^ 64) l 0 y some) apart
      ∙ ap (λ (m : ℕ). m * 2 ^ s) (sym shifted))
    where
      split : (x y v w c p z : ℕ) → y ≡ z * p → w + 1 * x ≡ v + 1 * y → v ≡ x + p * c → w ≡ (z + c) * p
      split x y v w c p z e f g = omega arith
