-- To agree in the first k columns, bit by bit, is to have the same digits above those that are unread.
use mathlib.Core.Path.{◌≡◌, refl, sym, ap, ◌∙◌, subst}
use mathlib.Core.Logic.{◌⊎◌, inl, inr}
use mathlib.Core.Bool.{Bool, true, false, cond}
use Prim.Native.Nat.{ℕ, zero, suc, ◌+◌, ◌-◌, ◌*◌, ◌/◌, ◌%◌, ◌^◌, ◌≤◌, ◌<◌}
use native.Mathlib.Nat.{lt_of_lt_of_le, div-eq_of_lt, div-one}
use native.Mathlib.Omega.{arith}
use borrow.Author.Tests.{lt-ltb, le-ltb}
use lib.Dec.{ltb}
use lib.Pow.{pow_mono, shr_lt, shr-shr}
use Rattle.numbers.specs.Limits.{most_precision, least_exponent}
use Rattle.numbers.specs.Operand.{Operand, mantissa, last_weight, WellFormed}
use Rattle.numbers.proofs.Limits.{weights_counted}
use Rattle.numbers.proofs.Digits.{mantissa_lt}
use Rattle.rounding.proofs.Order.{le_or_lt}
use Rattle.depth.specs.Columns.{bit_at, column_bit, Agree, Like}
use Rattle.depth.specs.Read.{unread}

-- ---- a number is its binary digits

bits_same : (n a b : ℕ) → a < 2 ^ n → b < 2 ^ n → ((i : ℕ) → i < n → a / 2 ^ i % 2 ≡ b / 2 ^ i % 2) → a ≡ b
bits_same zero a b h k f = omega arith
bits_same (suc n) a b h k f = join (bits_same n (a / 2 ^ 1) (b / 2 ^ 1) (shr_lt n 1 (wide h)) (shr_lt n 1 (wide k)) (λ i l. rest a i ∙ f (suc i) (up i l) ∙ sym (rest b i))) (f 0 (omega arith))
  where
    wide : {v : ℕ} → v < 2 ^ suc n → v < 2 ^ (n + 1)
    wide {v} h = subst (λ (i : ℕ). v < 2 ^ i) (more n) h
      where
        more : (n : ℕ) → suc n ≡ n + 1
        more n = omega arith

    rest : (v i : ℕ) → v / 2 ^ 1 / 2 ^ i % 2 ≡ v / 2 ^ suc i % 2
    rest v i = ap (λ (z : ℕ). z % 2) (shr-shr v 1 i ∙ ap (λ (z : ℕ). v / 2 ^ z) (more i))
      where
        more : (i : ℕ) → 1 + i ≡ suc i
        more i = omega arith

    up : (i : ℕ) → i < n → suc i < suc n
    up i l = omega arith

    join : a / 2 ^ 1 ≡ b / 2 ^ 1 → a / 2 ^ 0 % 2 ≡ b / 2 ^ 0 % 2 → a ≡ b
    join e d = omega (arith, div-one a, div-one b)

-- ---- a bit of an operand

bit_read : (x : Operand) (w : ℕ) → x.is_zero ≡ false → last_weight x ≤ w → bit_at x w ≡ mantissa x / 2 ^ (w - last_weight x) % 2
unfolding bit_at
bit_read x w r h = simp (r, le-ltb _ _ h)

bit_below : (x : Operand) (w : ℕ) → w < last_weight x → bit_at x w ≡ 0
unfolding bit_at
bit_below x w h = go x.is_zero
  where
    go : (b : Bool) → cond b 0 (cond (ltb w (last_weight x)) 0 (mantissa x / 2 ^ (w - last_weight x) % 2)) ≡ 0
    go true = refl
    go false = simp (lt-ltb _ _ h)

zero_bit : (x : Operand) (w : ℕ) → x.is_zero ≡ true → bit_at x w ≡ 0
unfolding bit_at
zero_bit x w e = simp e

-- every digit of a regular operand has a weight of 2 to a natural number
pub digits_counted : (x : Operand) → WellFormed x → x.is_zero ≡ false → x.precision ≤ x.exponent
digits_counted x g r = go g.most (g.regular r).least
  where
    go : x.precision ≤ most_precision → least_exponent ≤ x.exponent → x.precision ≤ x.exponent
    go h k = omega (arith, weights_counted)

-- ---- the two forms of agreement: p digits, the first of weight 2 ^ (e - 1); bit i of column j is the n-th, n = 64 j + i

module _ (p e t k : ℕ) (inside : p ≤ e) (top : e ≤ t) where
  abbrev left : ℕ
  left = p - (64 * k - (t - e))

  -- the n-th bit is a digit of weight 2 ^ (left + i) above the last
  place : (i : ℕ) → left + i < p → (n : ℕ) × (n < 64 * k) × (t - (n + 1) ≡ e - p + (left + i))
  place i h = (t - (e - p + (left + i) + 1), inner (64 * k) h, outer (left + i) h)
    where
      inner : (c : ℕ) → p - (c - (t - e)) + i < p → t - (e - p + (p - (c - (t - e)) + i) + 1) < c
      inner c h = omega arith

      outer : (v : ℕ) → v < p → t - (t - (e - p + v + 1) + 1) ≡ e - p + v
      outer v h = omega arith

  -- and a digit in the columns is no unread one
  seen : (n : ℕ) → n < 64 * k → e - p ≤ t - (n + 1) → left ≤ t - (n + 1) - (e - p)
  seen n h l = go (64 * k) h l
    where
      go : (c : ℕ) → n < c → e - p ≤ t - (n + 1) → p - (c - (t - e)) ≤ t - (n + 1) - (e - p)
      go c h l = omega arith

-- bit i of column j
nth : (n k : ℕ) → n < 64 * k → (n / 64 < k) × (n % 64 < 64) × (64 * (n / 64) + n % 64 + 1 ≡ n + 1)
nth n k h = (omega arith, omega arith, omega arith)

module _ (t k : ℕ) (x z : Operand) (g : WellFormed x) (h : WellFormed z) (same : z.is_zero ≡ x.is_zero) (p : z.precision ≡ x.precision) (e : z.exponent ≡ x.exponent) (top : x.is_zero ≡ false → x.exponent ≤ t) where
  abbrev u : ℕ
  u = unread t k x

  weight : last_weight z ≡ last_weight x
  unfolding last_weight
  weight = cc

  pub quotients_of_columns : Agree t k x z → x.is_zero ≡ false → mantissa z / 2 ^ u ≡ mantissa x / 2 ^ u
  unfolding Agree column_bit unread last_weight
  quotients_of_columns f r = bits_same x.precision (mantissa z / 2 ^ u) (mantissa x / 2 ^ u) (less (mantissa z) (rw (← p) (mantissa_lt z h))) (less (mantissa x) (mantissa_lt x g)) (λ i l. shifted (mantissa z) i ∙ digit i (le_or_lt x.precision (u + i)) ∙ sym (shifted (mantissa x) i))
    where
      less : (m : ℕ) → m < 2 ^ x.precision → m / 2 ^ u < 2 ^ x.precision
      less m l = shr_lt x.precision u (lt_of_lt_of_le l (pow_mono (more x.precision u)))
        where
          more : (a b : ℕ) → a ≤ a + b
          more a b = omega arith

      shifted : (m i : ℕ) → m / 2 ^ u / 2 ^ i % 2 ≡ m / 2 ^ (u + i) % 2
      shifted m i = ap (λ (v : ℕ). v % 2) (shr-shr m u i)

      gone : (m i : ℕ) → m < 2 ^ x.precision → x.precision ≤ u + i → m / 2 ^ (u + i) % 2 ≡ 0
      gone m i l v = ap (λ (n : ℕ). n % 2) (div-eq_of_lt (lt_of_lt_of_le l (pow_mono v)))

      digit : (i : ℕ) → (x.precision ≤ u + i) ⊎ (u + i < x.precision) → mantissa z / 2 ^ (u + i) % 2 ≡ mantissa x / 2 ^ (u + i) % 2
      digit i (inl v) = gone (mantissa z) i (rw (← p) (mantissa_lt z h)) v ∙ sym (gone (mantissa x) i (mantissa_lt x g) v)
      digit i (inr v) =
          let n = place x.precision x.exponent t k (digits_counted x g r) (top r) i v in
          let c = nth n.0 k n.1 in
          let w : t - (64 * (n.0 / 64) + n.0 % 64 + 1) ≡ last_weight x + (u + i) = ap (λ (v : ℕ). t - v) c.2 ∙ n.2 in
          sym (at z (same ∙ r) weight i) ∙ subst (λ (v : ℕ). bit_at z v ≡ bit_at x v) w (f (n.0 / 64) (n.0 % 64) c.0 c.1) ∙ at x r refl i
        where
          at : (y : Operand) → y.is_zero ≡ false → last_weight y ≡ last_weight x → (i : ℕ) → bit_at y (last_weight x + (u + i)) ≡ mantissa y / 2 ^ (u + i) % 2
          at y s d i = bit_read y (last_weight x + (u + i)) s (low (last_weight y) (last_weight x) (u + i) d) ∙ ap (λ (v : ℕ). mantissa y / 2 ^ v % 2) (up (last_weight y) (last_weight x) (u + i) d)
            where
              low : (a b c : ℕ) → a ≡ b → a ≤ b + c
              low a b c e = omega arith

              up : (a b c : ℕ) → a ≡ b → b + c - a ≡ c
              up a b c e = omega arith

  pub columns_of_quotients : (x.is_zero ≡ false → mantissa z / 2 ^ u ≡ mantissa x / 2 ^ u) → Agree t k x z
  unfolding Agree column_bit unread last_weight
  columns_of_quotients f j i l m = go x.is_zero refl (le_or_lt (last_weight x) w)
    where
      w : ℕ
      w = t - (64 * j + i + 1)

      go : (b : Bool) → x.is_zero ≡ b → (last_weight x ≤ w) ⊎ (w < last_weight x) → bit_at z w ≡ bit_at x w
      go true r v = zero_bit z w (same ∙ r) ∙ sym (zero_bit x w r)
      go false r (inr v) = bit_below z w (rw weight v) ∙ sym (bit_below x w v)
      go false r (inl v) =
          let s = seen x.precision x.exponent t k (digits_counted x g r) (top r) (64 * j + i) (inner j i l m) v in
          bit_read z w (same ∙ r) (rw weight v) ∙ ap (λ (n : ℕ). mantissa z / 2 ^ (w - n) % 2) weight ∙ ap (λ (n : ℕ). n % 2) (sym (back (mantissa z) s) ∙ ap (λ (n : ℕ). n / 2 ^ (w - last_weight x - u)) (f r) ∙ back (mantissa x) s) ∙ sym (bit_read x w r v)
        where
          inner : (j i : ℕ) → j < k → i < 64 → 64 * j + i < 64 * k
          inner j i l m = omega arith

          back : (n : ℕ) → u ≤ w - last_weight x → n / 2 ^ u / 2 ^ (w - last_weight x - u) ≡ n / 2 ^ (w - last_weight x)
          back n s = shr-shr n u (w - last_weight x - u) ∙ ap (λ (v : ℕ). n / 2 ^ v) (split u (w - last_weight x) s)
            where
              split : (a b : ℕ) → a ≤ b → a + (b - a) ≡ b
              split a b h = omega arith

-- ---- and so for what may stand in x's place

module _ (t k : ℕ) (x : Operand) (g : WellFormed x) (top : x.is_zero ≡ false → x.exponent ≤ t) (z : Operand) where
  pub read_of : Like t k x z → x.is_zero ≡ false → mantissa z / 2 ^ unread t k x ≡ mantissa x / 2 ^ unread t k x
  read_of l = quotients_of_columns t k x z g l.well_formed l.is_zero l.precision l.exponent top l.columns

  pub like_by : WellFormed z → z.negative ≡ x.negative → z.is_zero ≡ x.is_zero → z.precision ≡ x.precision → z.exponent ≡ x.exponent
      → (x.is_zero ≡ false → mantissa z / 2 ^ unread t k x ≡ mantissa x / 2 ^ unread t k x) → Like t k x z
  like_by h n s p e f = record { well_formed = h; negative = n; is_zero = s; precision = p; exponent = e; columns = columns_of_quotients t k x z g h s p e top f }
