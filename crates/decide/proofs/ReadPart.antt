-- An operand after k columns: what is read of it in cut units, and how many digits are left; or nothing of it is read.
use mathlib.Core.Path.{◌≡◌, refl, sym, ap, ◌∙◌, subst}
use mathlib.Core.Logic.{inl, inr}
use mathlib.Core.Bool.{Bool, true, false, true≢false}
use Prim.Native.Nat.{ℕ, zero, suc, ◌+◌, ◌-◌, ◌*◌, ◌/◌, ◌^◌, ◌≤◌, ◌<◌, max}
use native.Mathlib.Nat.{le_trans, le_of_eq, suc-mul, zero-mul, add-mul, mul-le-mul_right, div-eq_of_lt, pow-succ'}
use native.Mathlib.Omega.{arith}
use lib.Pow.{pow_pos, pow-add}
use lib.Ieee.{size}
use Rattle.rounding.proofs.Zeros.{amount_zero}
use Rattle.rounding.proofs.Order.{zero_or}
use Rattle.numbers.specs.Operand.{Operand, mantissa, last_weight, WellFormed}
use Rattle.rounding.specs.Sum.{amount}
use Rattle.depth.specs.Read.{unread}
use Rattle.limb.proofs.Sizes.{size_is}
use Rattle.rounding.proofs.Scale.{size_shift}
use Rattle.numbers.proofs.Digits.{mantissa_lt, precision_two}
use Rattle.depth.proofs.Columns.{digits_counted}
use Rattle.depth.proofs.Reach.{base, digits_at, end, at_least, at_most}
use Rattle.depth.proofs.Amounts.{amount_end, like_end}
use Rattle.depth.proofs.Meet.{at_cut, base_grid, low_grid}
use Rattle.decide.proofs.Rows.{Seen, Held}
use Rattle.decide.proofs.RowsFar.{Unseen}

-- one unit of B taken away and put back
back : (U B : ℕ) → 0 < U → (U - 1) * B + B ≡ U * B
back zero B h = absurd (omega arith)
back (suc U) B h = let e : (suc U - 1) * B ≡ U * B = ap (λ (z : ℕ). z * B) (pred U) in omega (arith, suc-mul U B)
  where
    pred : (u : ℕ) → suc u - 1 ≡ u
    pred u = omega arith

-- a number of p digits, counted in another unit, has the exponent that it had
module _ (x : Operand) (g : WellFormed x) (r : x.is_zero ≡ false) (s : ℕ) (sc : s ≤ last_weight x) where
  abbrev a : ℕ
  a = last_weight x - s

  expo_is : x.precision + a + s ≡ x.exponent
  unfolding last_weight
  expo_is = go (digits_counted x g r) sc
    where
      go : x.precision ≤ x.exponent → s ≤ x.exponent - x.precision → x.precision + (x.exponent - x.precision - s) + s ≡ x.exponent
      go h k = omega arith

  size_digits : (m : ℕ) → 2 ^ (x.precision - 1) ≤ m → m < 2 ^ x.precision → size m ≡ x.precision
  size_digits m h k = size_is m (x.precision - 1) h (subst (λ (z : ℕ). m < 2 ^ z) (one x.precision (precision_two x g)) k) ∙ sym (one x.precision (precision_two x g))
    where
      one : (p : ℕ) → 2 ≤ p → p ≡ suc (p - 1)
      one p h = omega arith

  pub counted : (j n m : ℕ) → n * 2 ^ j ≡ m * 2 ^ a → 2 ^ (x.precision - 1) ≤ m → m < 2 ^ x.precision → (0 < n) × (size n + (j + s) ≡ x.exponent)
  counted j n m e h k = elim (zero_or n) [
    | inl z ↦ absurd (none (m * 2 ^ a) (ap (λ (v : ℕ). v * 2 ^ j) (sym z) ∙ e) (le_trans (pow_pos a) (le_trans (le_of_eq (one (2 ^ a))) (mul-le-mul_right (2 ^ a) M))))
    | inr N ↦ (N, sum (size n) x.precision (sym (size_shift n j N) ∙ ap size e ∙ size_shift m a M ∙ ap (λ (v : ℕ). v + a) (size_digits m h k)) expo_is)
  ]
    where
      M : 0 < m
      M = le_trans (pow_pos (x.precision - 1)) h

      one : (v : ℕ) → v ≡ 1 * v
      one v = omega arith

      none : (v : ℕ) → 0 * 2 ^ j ≡ v → 0 < v → ⊥
      none v e h = omega (arith, zero-mul (2 ^ j))

      sum : (z p : ℕ) → z + j ≡ p + a → p + a + s ≡ x.exponent → z + (j + s) ≡ x.exponent
      sum z p e f = omega arith

  pub held : (j n m : ℕ) → n * 2 ^ j ≡ m * 2 ^ a → 2 ^ (x.precision - 1) ≤ m → m < 2 ^ x.precision → Held s j n
  held j n m e h k = let c = counted j n m e h k in record { from = λ z. le_trans (g.regular r).least (le_of_eq (sym c.1)); to = λ z. le_trans (le_of_eq c.1) (g.regular r).most }

-- ---- some of it is read

module _ (t k s : ℕ) (x : Operand) (g : WellFormed x) (r : x.is_zero ≡ false) (top : x.exponent ≤ t) (sc : s ≤ last_weight x) (seen : t - x.exponent < 64 * k) where
  abbrev j : ℕ
  j = t - 64 * k - s

  abbrev b : ℕ
  b = last_weight x - s

  abbrev u : ℕ
  u = unread t k x

  abbrev read : ℕ
  read = mantissa x / 2 ^ u * 2 ^ (u + b - j)

  last : (v : ℕ) → u ≡ v → (l : ℕ) × (l + u ≡ j) × ((2 ^ u - 1) * 2 ^ b + 2 ^ l ≡ 2 ^ j)
  last zero e = (j, ap (λ (z : ℕ). j + z) e ∙ omega arith, ap (λ (z : ℕ). (2 ^ z - 1) * 2 ^ b + 2 ^ j) e ∙ flat (2 ^ b))
    where
      flat : (v : ℕ) → (2 ^ 0 - 1) * v + 2 ^ j ≡ 2 ^ j
      flat v = omega arith
  last (suc v) e =
      let c : u + b ≡ j = at_cut t k s x g r top sc seen (subst (λ (z : ℕ). 0 < z) (sym e) (omega arith)) in
      (b, turn (unread t k x) c, back (2 ^ u) (2 ^ b) (pow_pos u) ∙ sym (pow-add 2 u b) ∙ ap (λ (z : ℕ). 2 ^ z) c)
    where
      turn : (u : ℕ) → u + b ≡ j → b + u ≡ j
      turn u c = omega arith

  pub seen_is : Seen j read u (amount s (end t k x false)) (amount s (end t k x true))
  unfolding digits_at
  seen_is =
      let q = last u refl in
      record {
        l = q.0;
        cut = q.1;
        low = amount_end t k s x g top false r ∙ low_grid t k s x g r top sc seen;
        high = ap (λ (z : ℕ). z + 2 ^ q.0) (amount_end t k s x g top true r ∙ add-mul (base t k x) (2 ^ u - 1) (2 ^ b)) ∙ sum (base t k x * 2 ^ b) ((2 ^ u - 1) * 2 ^ b) (2 ^ q.0) (base_grid t k s x g r top sc seen) q.2;
      }
    where
      sum : (d c l : ℕ) {m : ℕ} → d ≡ read * 2 ^ j → c + l ≡ m → d + c + l ≡ read * 2 ^ j + m
      sum d c l e f = omega arith

  abbrev digits : ℕ
  digits = digits_at t k x false

  pub seen_held : Held s j read
  seen_held = held x g r s sc j read digits (sym (low_grid t k s x g r top sc seen)) (at_least t k x g r false) (at_most t k x g r false)

  pub seen_pos : 0 < read
  seen_pos = (counted x g r s sc j read digits (sym (low_grid t k s x g r top sc seen)) (at_least t k x g r false) (at_most t k x g r false)).0

-- ---- zero

pub nil_seen : (t k s : ℕ) (x : Operand) → WellFormed x → x.is_zero ≡ true → (j : ℕ) → Seen j 0 0 (amount s (end t k x false)) (amount s (end t k x true))
nil_seen t k s x g r j = record {
  l = j;
  cut = omega arith;
  low = amount_zero s (end t k x false) (ended false) ∙ sym (zero-mul (2 ^ j));
  high = ap (λ (z : ℕ). z + 2 ^ j) (amount_zero s (end t k x true) (ended true)) ∙ omega arith;
}
  where
    ended : (b : Bool) → (end t k x b).is_zero ≡ true
    ended b = (like_end t k x g (λ e. absurd (true≢false (sym r ∙ e))) b).is_zero ∙ r

pub nil_held : (s j : ℕ) → Held s j 0
nil_held s j = record { from = λ h. absurd (omega arith); to = λ h. absurd (omega arith) }

-- ---- nothing of it is read

apart : (c t e : ℕ) → c ≤ t - e → 0 < c → c + e ≤ t
apart c t e u h = omega arith

between_cuts : (e c t s : ℕ) → s + 1 ≤ e → c + e ≤ t → e - 1 - s + suc (t - c - e) ≡ t - c - s
between_cuts e c t s a b = omega arith

module _ (t k s : ℕ) (x : Operand) (g : WellFormed x) (r : x.is_zero ≡ false) (top : x.exponent ≤ t) (sc : s ≤ last_weight x) (unseen : 64 * k ≤ t - x.exponent) where
  abbrev h : ℕ
  h = last_weight x - s

  all_left : unread t k x ≡ x.precision
  unfolding unread
  all_left = omega arith

  none_read : base t k x ≡ 0
  none_read = ap (λ (z : ℕ). mantissa x / 2 ^ z * 2 ^ z) all_left ∙ ap (λ (z : ℕ). z * 2 ^ x.precision) (div-eq_of_lt (mantissa_lt x g)) ∙ zero-mul (2 ^ x.precision)

  least_digits : digits_at t k x false ≡ 2 ^ (x.precision - 1)
  unfolding digits_at
  least_digits = ap (max (2 ^ (x.precision - 1))) none_read ∙ go (2 ^ (x.precision - 1))
    where
      go : (v : ℕ) → max v 0 ≡ v
      go v = omega arith

  most_digits : digits_at t k x true ≡ 2 ^ x.precision - 1
  unfolding digits_at
  most_digits = ap (λ (z : ℕ). z + (2 ^ unread t k x - 1)) none_read ∙ ap (λ (z : ℕ). 0 + (2 ^ z - 1)) all_left ∙ omega arith

  -- its first digit lies below the cut, and above the lowest weight present
  pub unseen_first : s + 1 ≤ x.exponent
  unseen_first = go x.exponent x.precision (last_weight x - s) (expo_is x g r s sc) (precision_two x g)
    where
      go : (e m c : ℕ) → m + c + s ≡ e → 2 ≤ m → s + 1 ≤ e
      go e m c w M = omega arith

  pub unseen_below : 1 ≤ k → 64 * k + x.exponent ≤ t
  unseen_below K = apart (64 * k) t x.exponent unseen (some K)
    where
      some : 1 ≤ k → 0 < 64 * k
      some K = omega arith

  pub unseen_cut : 1 ≤ k → x.exponent - 1 - s + suc (t - 64 * k - x.exponent) ≡ t - 64 * k - s
  unseen_cut K = between_cuts x.exponent (64 * k) t s unseen_first (unseen_below K)

  pub unseen_is : Unseen (x.exponent - 1 - s) (amount s (end t k x false)) (amount s (end t k x true))
  unseen_is = subst (λ (v : ℕ). Unseen v (amount s (end t k x false)) (amount s (end t k x true))) (sym first) (record {
    l = h;
    two = omega (arith, precision_two x g);
    low = amount_end t k s x g top false r ∙ ap (λ (z : ℕ). z * 2 ^ h) least_digits ∙ sym (pow-add 2 (x.precision - 1) h);
    high =
        ap (λ (z : ℕ). z + 2 ^ h) (amount_end t k s x g top true r ∙ ap (λ (z : ℕ). z * 2 ^ h) most_digits) ∙ back (2 ^ x.precision) (2 ^ h) (pow_pos x.precision)
        ∙ sym (pow-add 2 x.precision h) ∙ ap (λ (z : ℕ). 2 ^ z) (one x.precision (precision_two x g)) ∙ pow-succ' 2 (x.precision - 1 + h) ∙ omega arith;
  })
    where
      first : x.exponent - 1 - s ≡ x.precision - 1 + h
      first = go (expo_is x g r s sc) (precision_two x g)
        where
          go : x.precision + (last_weight x - s) + s ≡ x.exponent → 2 ≤ x.precision → x.exponent - 1 - s ≡ x.precision - 1 + (last_weight x - s)
          go e t = omega arith

      one : (p : ℕ) → 2 ≤ p → p + h ≡ suc (p - 1 + h)
      one p k = omega arith
