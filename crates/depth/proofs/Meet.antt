-- Two regular numbers of which only the first k columns are known: if each can be the larger, they can be equal.
use mathlib.Core.Path.{◌≡◌, sym, ap, ◌∙◌, subst}
use mathlib.Core.Logic.{◌⊎◌, inl, inr}
use mathlib.Core.Bool.{true, false}
use Prim.Native.Nat.{ℕ, zero, suc, ◌+◌, ◌-◌, ◌*◌, ◌/◌, ◌^◌, ◌≤◌, ◌<◌, max}
use native.Mathlib.Nat.{le_trans, le_of_eq, le_of_lt, lt_of_lt_of_le, lt_of_le_of_lt, suc-mul, zero-mul, add-mul, mul_assoc, mul-le-mul_right, mul-lt-mul_of_pos_right, lt_of_mul-lt-mul_right, le-div_iff_mul-le}
use native.Mathlib.Omega.{arith}
use lib.Pow.{pow_pos, pow_mono, pow-add, ones_lt}
use Rattle.numbers.specs.Operand.{Operand, mantissa, last_weight, WellFormed}
use Rattle.depth.specs.Read.{unread}
use Rattle.rounding.proofs.Order.{le_or_lt}
use Rattle.rounding.proofs.Selection.{multiple}
use Rattle.numbers.proofs.Digits.{mantissa_ge, precision_two}
use Rattle.depth.proofs.Columns.{digits_counted}
use Rattle.depth.proofs.Reach.{base, digits_at, at_least, at_most}

-- ---- weights, from s: p digits at the weight a and above, d columns' bits below the top

cut_le : (p d s a k : ℕ) → d < k → (d + (p + (a + s)) - k) - s ≤ (p - (k - d)) + a
cut_le p d s a k h = omega arith

cut_eq : (p d s a k : ℕ) → d < k → 0 < p - (k - d) → (p - (k - d)) + a ≡ (d + (p + (a + s)) - k) - s
cut_eq p d s a k h u = omega arith

-- the rest of the unread digits are less than one unit of the cut
rest : (u a c : ℕ) → (0 < u → u + a ≡ c) → (2 ^ u - 1) * 2 ^ a < 2 ^ c
rest zero a c h = subst (λ (x : ℕ). x < 2 ^ c) (sym (zero-mul (2 ^ a))) (pow_pos c)
rest (suc u) a c h = lt_of_lt_of_le (mul-lt-mul_of_pos_right (ones_lt (suc u)) (pow_pos a)) (le_of_eq (sym (pow-add 2 (suc u) a) ∙ ap (λ (x : ℕ). 2 ^ x) (h (pos u))))
  where
    pos : (u : ℕ) → 0 < suc u
    pos u = omega arith

module _ (t k s : ℕ) (x : Operand) (g : WellFormed x) (r : x.is_zero ≡ false) (top : x.exponent ≤ t) (sc : s ≤ last_weight x) where
  abbrev d : ℕ
  d = t - x.exponent

  abbrev a : ℕ
  a = last_weight x - s

  abbrev cut : ℕ
  cut = (t - 64 * k) - s

  weights : t ≡ d + (x.precision + (a + s))
  unfolding last_weight
  weights = go (digits_counted x g r) sc
    where
      go : x.precision ≤ x.exponent → s ≤ x.exponent - x.precision → t ≡ (t - x.exponent) + (x.precision + (x.exponent - x.precision - s + s))
      go h k = omega arith

  over_cut : d < 64 * k → cut ≤ unread t k x + a
  unfolding unread
  over_cut seen = subst (λ (z : ℕ). z - 64 * k - s ≤ unread t k x + a) (sym weights) (cut_le x.precision d s a (64 * k) seen)

  pub at_cut : d < 64 * k → 0 < unread t k x → unread t k x + a ≡ cut
  unfolding unread
  at_cut seen h = cut_eq x.precision d s a (64 * k) seen h ∙ ap (λ (z : ℕ). z - 64 * k - s) (sym weights)

  first_read : d < 64 * k → unread t k x ≤ x.precision - 1
  unfolding unread
  first_read seen = go (precision_two x g) seen
    where
      go : 2 ≤ x.precision → t - x.exponent < 64 * k → x.precision - (64 * k - (t - x.exponent)) ≤ x.precision - 1
      go h l = omega arith

  -- the first digit is read, so the least digits are those read
  base_lead : d < 64 * k → 2 ^ (x.precision - 1) ≤ base t k x
  base_lead seen =
      let u = unread t k x in
      let e : 2 ^ (x.precision - 1) ≡ 2 ^ (x.precision - 1 - u) * 2 ^ u = ap (λ (z : ℕ). 2 ^ z) (back (x.precision - 1) u (first_read seen)) ∙ pow-add 2 (x.precision - 1 - u) u in
      le_trans (le_of_eq e) (mul-le-mul_right (2 ^ u) ((le-div_iff_mul-le (pow_pos u)).1 (le_trans (le_of_eq (sym e)) (mantissa_ge x g r))))
    where
      back : (p t : ℕ) → t ≤ p → p ≡ p - t + t
      back p t h = omega arith

  pub least_is : d < 64 * k → digits_at t k x false ≡ base t k x
  unfolding digits_at
  least_is seen = go (2 ^ (x.precision - 1)) (base t k x) (base_lead seen)
    where
      go : (a b : ℕ) → a ≤ b → max a b ≡ b
      go a b h = omega arith

  abbrev grid : ℕ
  grid = mantissa x / 2 ^ unread t k x * 2 ^ (unread t k x + a - cut)

  pub base_grid : d < 64 * k → base t k x * 2 ^ a ≡ grid * 2 ^ cut
  base_grid seen =
      let u = unread t k x in
      let q = mantissa x / 2 ^ u in
      mul_assoc q (2 ^ u) (2 ^ a) ∙ ap (λ (z : ℕ). q * z) (sym (pow-add 2 u a)) ∙ multiple q (u + a) cut (over_cut seen)

  pub low_grid : d < 64 * k → digits_at t k x false * 2 ^ a ≡ grid * 2 ^ cut
  low_grid seen = ap (λ (z : ℕ). z * 2 ^ a) (least_is seen) ∙ base_grid seen

  high_grid : d < 64 * k → digits_at t k x true * 2 ^ a < suc grid * 2 ^ cut
  unfolding digits_at
  high_grid seen =
      let u = unread t k x in
      let e = add-mul (base t k x) (2 ^ u - 1) (2 ^ a) in
      go (base t k x * 2 ^ a) ((2 ^ u - 1) * 2 ^ a) (grid * 2 ^ cut) (2 ^ cut) e (base_grid seen) (rest u a cut (at_cut seen)) (suc-mul grid (2 ^ cut))
    where
      go : (b v g c : ℕ) {l m : ℕ} → l ≡ b + v → b ≡ g → v < c → m ≡ g + c → l < m
      go b v g c e h k f = omega arith

  -- nothing is read: x stays below the first column's last weight
  unseen_lt : 64 * k ≤ d → 1 ≤ k → digits_at t k x true * 2 ^ a < 2 ^ (t - 1 - s)
  unseen_lt h K = lt_of_lt_of_le (mul-lt-mul_of_pos_right (at_most t k x g r true) (pow_pos a)) (le_trans (le_of_eq (sym (pow-add 2 x.precision a))) (pow_mono (go d x.precision a weights h)))
    where
      go : (d p a : ℕ) → t ≡ d + (p + (a + s)) → 64 * k ≤ d → p + a ≤ t - 1 - s
      go d p a e h = omega arith

  -- x stands at the top: it reaches that weight
  top_ge : t ≡ x.exponent → 2 ^ (t - 1 - s) ≤ digits_at t k x false * 2 ^ a
  top_ge e = le_trans (pow_mono (go d x.precision a weights (flat x.exponent e) (precision_two x g))) (le_trans (le_of_eq (pow-add 2 (x.precision - 1) a)) (mul-le-mul_right (2 ^ a) (at_least t k x g r false)))
    where
      flat : (v : ℕ) → t ≡ v → t - v ≡ 0
      flat v e = omega arith

      go : (d p a : ℕ) → t ≡ d + (p + (a + s)) → d ≡ 0 → 2 ≤ p → t - 1 - s ≤ p - 1 + a
      go d p a e h l = omega arith

module _ (t k s : ℕ) (x y : Operand) (g : WellFormed x) (h : WellFormed y) (r : x.is_zero ≡ false) (q : y.is_zero ≡ false)
    (xt : x.exponent ≤ t) (yt : y.exponent ≤ t) (xs : s ≤ last_weight x) (ys : s ≤ last_weight y) (top : (t ≡ x.exponent) ⊎ (t ≡ y.exponent)) (K : 1 ≤ k) where
  abbrev least : Operand → ℕ
  least z = digits_at t k z false * 2 ^ (last_weight z - s)

  abbrev most : Operand → ℕ
  most z = digits_at t k z true * 2 ^ (last_weight z - s)

  pub meet : least x < most y → least y < most x → least x ≡ least y
  meet l m = go (le_or_lt (64 * k) (t - x.exponent)) (le_or_lt (64 * k) (t - y.exponent)) top
    where
      both : t - x.exponent < 64 * k → t - y.exponent < 64 * k → least x ≡ least y
      both u v =
          let c = t - 64 * k - s in
          let i = grid t k s x g r xt xs in
          let j = grid t k s y h q yt ys in
          let a : i < suc j = lt_of_mul-lt-mul_right (2 ^ c) (lt_of_le_of_lt (le_of_eq (sym (low_grid t k s x g r xt xs u))) (lt_of_lt_of_le l (le_of_lt (high_grid t k s y h q yt ys v)))) in
          let b : j < suc i = lt_of_mul-lt-mul_right (2 ^ c) (lt_of_le_of_lt (le_of_eq (sym (low_grid t k s y h q yt ys v))) (lt_of_lt_of_le m (le_of_lt (high_grid t k s x g r xt xs u)))) in
          low_grid t k s x g r xt xs u ∙ ap (λ (z : ℕ). z * 2 ^ c) (even i j a b) ∙ sym (low_grid t k s y h q yt ys v)
        where
          even : (i j : ℕ) → i < suc j → j < suc i → i ≡ j
          even i j a b = omega arith

      go : (64 * k ≤ t - x.exponent) ⊎ (t - x.exponent < 64 * k) → (64 * k ≤ t - y.exponent) ⊎ (t - y.exponent < 64 * k) → (t ≡ x.exponent) ⊎ (t ≡ y.exponent) → least x ≡ least y
      go (inr u) (inr v) w = both u v
      go (inl u) v (inl w) = absurd (flat x.exponent w u K)
        where
          flat : (e : ℕ) → t ≡ e → 64 * k ≤ t - e → 1 ≤ k → ⊥
          flat e w u K = omega arith
      go (inl u) v (inr w) = absurd (clash (unseen_lt t k s x g r xt xs u K) (top_ge t k s y h q yt ys w) m)
        where
          clash : {a b c : ℕ} → a < b → b ≤ c → c < a → ⊥
          clash h k l = omega arith
      go (inr u) (inl v) (inl w) = absurd (clash (unseen_lt t k s y h q yt ys v K) (top_ge t k s x g r xt xs w) l)
        where
          clash : {a b c : ℕ} → a < b → b ≤ c → c < a → ⊥
          clash h k l = omega arith
      go (inr u) (inl v) (inr w) = absurd (flat y.exponent w v K)
        where
          flat : (e : ℕ) → t ≡ e → 64 * k ≤ t - e → 1 ≤ k → ⊥
          flat e w u K = omega arith
