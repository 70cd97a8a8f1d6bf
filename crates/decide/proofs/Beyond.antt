-- Nothing of y is read: the decision on the operands.
use mathlib.Core.Path.{◌≡◌, refl, sym, ap, ◌∙◌, subst}
use mathlib.Core.Bool.{Bool, true, false, cond}
use Prim.Native.Nat.{ℕ, zero, suc, ◌+◌, ◌-◌, ◌*◌, ◌/◌, ◌^◌, ◌≤◌, ◌<◌}
use native.Mathlib.Nat.{le_trans, le_of_eq, lt_of_lt_of_le, mul-le-mul_right, mul-one, div-one, pow-succ'}
use native.Mathlib.Omega.{arith}
use lib.Pow.{pow_pos, pow_mono}
use lib.Ieee.{size}
use Rattle.numbers.specs.Operand.{Operand, mantissa, last_weight, WellFormed}
use Rattle.rounding.specs.declared.Mode.{Mode}
use Rattle.rounding.specs.Answer.{Answer}
use Rattle.rounding.specs.Sum.{amount}
use Rattle.depth.specs.Read.{unread}
use Rattle.numbers.specs.Limits.{least_exponent}
use Rattle.rounding.proofs.Selection.{multiple}
use Rattle.numbers.proofs.Digits.{mantissa_lt, mantissa_ge, precision_two}
use Rattle.depth.proofs.Reach.{digits_at, end}
use Rattle.depth.proofs.Amounts.{amount_end}
use Rattle.depth.proofs.Meet.{least_is}
use Rattle.decide.specs.Table.{some?, far_pair, hole_pair, hole_by_size}
use Rattle.decide.specs.Decide.{read_digits, read_part, beyond}
use Rattle.decide.specs.Answer.{far_answer, hole_answer, beyond_answer}
use Rattle.decide.proofs.Rows.{Seen, Held}
use Rattle.decide.proofs.Pair.{Judges, Pair, least_end, seen_read, far_pair_lem, hole_pair_lem}
use Rattle.decide.proofs.HoleTest.{hole_pair_is}
use Rattle.decide.proofs.ReadPart.{counted, held, seen_is, seen_held, seen_pos, unseen_first, unseen_below, unseen_cut, unseen_is}

pub digits_are : (t k : ℕ) (z : Operand) → z.is_zero ≡ false → read_digits t k z ≡ mantissa z / 2 ^ unread t k z
unfolding read_digits
digits_are t k z e = rw e

pub read_is : (t k s : ℕ) (z : Operand) → z.is_zero ≡ false → read_part t k s z ≡ mantissa z / 2 ^ unread t k z * 2 ^ (unread t k z + (last_weight z - s) - (t - 64 * k - s))
unfolding read_part
read_is t k s z e = ap (λ (n : ℕ). n * 2 ^ (unread t k z + (last_weight z - s) - (t - 64 * k - s))) (digits_are t k z e)

-- weights, over plain variables
fits : (t e m c : ℕ) → t ≡ e → m - (c - (t - e)) ≡ 0 → m ≤ c
fits t e m c a b = omega arith

room : (t e m c f : ℕ) → t ≡ e → m ≤ c → c + f ≤ t → f ≤ e - m
room t e m c f a b d = omega arith

module _ (neg : Bool) (o : Mode) (p : ℕ) (P : 0 < p) (x y : Operand) (g : WellFormed x) (h : WellFormed y) (r : x.is_zero ≡ false) (q : y.is_zero ≡ false) (k t s : ℕ) (K : 1 ≤ k)
    (top : t ≡ x.exponent) (sx : s ≤ last_weight x) (sy : s ≤ last_weight y) (unseen : 64 * k ≤ t - y.exponent) where
  abbrev j : ℕ
  j = t - 64 * k - s

  abbrev f : ℕ
  f = t - 64 * k - y.exponent

  abbrev v : ℕ
  v = y.exponent - 1 - s

  abbrev xl : ℕ
  xl = amount s (end t k x false)

  abbrev xh : ℕ
  xh = amount s (end t k x true)

  abbrev yl : ℕ
  yl = amount s (end t k y false)

  abbrev yh : ℕ
  yh = amount s (end t k y true)

  flat : t - x.exponent < 64 * k
  flat = go x.exponent top
    where
      go : (e : ℕ) → t ≡ e → t - e < 64 * k
      go e h = omega arith

  x_top : x.exponent ≤ t
  x_top = le_of_eq (sym top)

  y_top : y.exponent ≤ t
  y_top = go y.exponent unseen K
    where
      go : (e : ℕ) → 64 * k ≤ t - e → 1 ≤ k → e ≤ t
      go e u K = omega arith

  seen : Seen j (read_part t k s x) (unread t k x) xl xh
  seen = subst (λ (n : ℕ). Seen j n (unread t k x) xl xh) (sym (read_is t k s x r)) (seen_is t k s x g r x_top sx flat)

  -- y's first digit lies above the lowest weight present
  first : s + 1 ≤ y.exponent
  first = unseen_first t k s y h q y_top sy unseen

  below : 64 * k + y.exponent ≤ t
  below = unseen_below t k s y h q y_top sy unseen K

  far : (u : ℕ) → unread t k x ≡ suc u → Judges (far_pair o p (j + s) x.negative y.negative (read_part t k s x) (unread t k x) f) (Pair neg o p s P x.negative y.negative xl xh yl yh) (least_end neg o p s P x.negative y.negative xl xh yl yh) (far_answer o p (j + s) x.negative y.negative (read_part t k s x) (unread t k x) f)
  far u e =
      subst (λ (n : ℕ). Judges (far_pair o p (j + s) x.negative y.negative (read_part t k s x) n f) (Pair neg o p s P x.negative y.negative xl xh yl yh) (least_end neg o p s P x.negative y.negative xl xh yl yh) (far_answer o p (j + s) x.negative y.negative (read_part t k s x) n f)) (sym e)
      (far_pair_lem neg o p s P x.negative y.negative j (read_part t k s x) u xl xh v f yl yh (subst (λ (n : ℕ). Seen j (read_part t k s x) n xl xh) e seen) (unseen_is t k s y h q y_top sy unseen) (unseen_cut t k s y h q y_top sy unseen K)
      (subst (Held s j) (sym (read_is t k s x r)) (seen_held t k s x g r x_top sx flat)) (subst (λ (n : ℕ). 0 < n) (sym (read_is t k s x r)) (seen_pos t k s x g r x_top sx flat)))

  -- all of x is read
  module _ (read : unread t k x ≡ 0) where
    whole : digits_at t k x false ≡ mantissa x
    whole = least_is t k s x g r x_top sx flat ∙ ap (λ (n : ℕ). mantissa x / 2 ^ n * 2 ^ n) read ∙ mul-one (mantissa x / 1) ∙ div-one (mantissa x)

    above : y.exponent ≤ last_weight x
    unfolding last_weight unread
    above = room t x.exponent x.precision (64 * k) y.exponent top (fits t x.exponent x.precision (64 * k) top read) below

    abbrev z : ℕ
    z = mantissa x * 2 ^ (last_weight x - (y.exponent - 1))

    same_weight : mantissa x * 2 ^ (last_weight x - s) ≡ z * 2 ^ v
    same_weight = multiple (mantissa x) (last_weight x - s) v (less (last_weight x) y.exponent above) ∙ ap (λ (n : ℕ). mantissa x * 2 ^ n * 2 ^ v) (apart (last_weight x) y.exponent first)
      where
        less : (l e : ℕ) → e ≤ l → e - 1 - s ≤ l - s
        less l e a = omega arith

        apart : (l e : ℕ) → s + 1 ≤ e → (l - s) - (e - 1 - s) ≡ l - (e - 1)
        apart l e a = omega arith

    x_is : xl ≡ z * 2 ^ v
    x_is = amount_end t k s x g x_top false r ∙ ap (λ (n : ℕ). n * 2 ^ (last_weight x - s)) whole ∙ same_weight

    two : 2 ≤ z
    two = go (2 ^ (last_weight x - (y.exponent - 1))) (pow_pos (last_weight x - (y.exponent - 1))) (le_trans start (mantissa_ge x g r))
      where
        one : (m : ℕ) → 2 ≤ m → 1 ≤ m - 1
        one m a = omega arith

        start : 2 ^ 1 ≤ 2 ^ (x.precision - 1)
        start = pow_mono (one x.precision (precision_two x g))

        go : (n : ℕ) → 0 < n → 2 ≤ mantissa x → 2 ≤ mantissa x * n
        go n a b = let c = mul-le-mul_right n b in omega arith

    hole : Judges (hole_pair o p (y.exponent - 1) x.negative y.negative z) (Pair neg o p s P x.negative y.negative xl xh yl yh) (least_end neg o p s P x.negative y.negative xl xh yl yh) (hole_answer o p (y.exponent - 1) x.negative y.negative z)
    hole =
        subst (λ (n : ℕ). Judges (hole_pair o p n x.negative y.negative z) (Pair neg o p s P x.negative y.negative xl xh yl yh) (least_end neg o p s P x.negative y.negative xl xh yl yh) (hole_answer o p n x.negative y.negative z)) (weight y.exponent first)
        (subst (λ (n : ℕ). Judges (hole_pair o p (v + s) x.negative y.negative z) (Pair neg o p s P x.negative y.negative xl n yl yh) (least_end neg o p s P x.negative y.negative xl n yl yh) (hole_answer o p (v + s) x.negative y.negative z)) (sym (seen_read neg o p s P j (read_part t k s x) xl xh (subst (λ (n : ℕ). Seen j (read_part t k s x) n xl xh) read seen)))
        (hole_pair_lem neg o p s P x.negative y.negative z xl v yl yh x_is (unseen_is t k s y h q y_top sy unseen) two (held x g r s sx v z (mantissa x) (sym same_weight) (mantissa_ge x g r) (mantissa_lt x g))))
      where
        weight : (e : ℕ) → s + 1 ≤ e → e - 1 - s + s ≡ e - 1
        weight e a = omega arith

    -- no large number is needed
    by_size : hole_pair o p (y.exponent - 1) x.negative y.negative z ≡ hole_by_size o p x.negative y.negative (mantissa x) (last_weight x - y.exponent)
    by_size =
        ap (hole_pair o p (y.exponent - 1) x.negative y.negative) (twice (last_weight x) y.exponent above first)
        ∙ hole_pair_is o p (y.exponent - 1) x.negative y.negative (mantissa x) (last_weight x - y.exponent) P two_digits (lt_of_lt_of_le bottom (le_of_eq (sym weight))) (le_trans (le_of_eq weight) (g.regular r).most)
      where
        twice : (l e : ℕ) → e ≤ l → s + 1 ≤ e → mantissa x * 2 ^ (l - (e - 1)) ≡ mantissa x * 2 ^ (l - e) * 2
        twice l e a b = ap (λ (n : ℕ). mantissa x * 2 ^ n) (go a b) ∙ ap (λ (n : ℕ). mantissa x * n) (pow-succ' 2 (l - e)) ∙ omega arith
          where
            go : e ≤ l → s + 1 ≤ e → l - (e - 1) ≡ suc (l - e)
            go a b = omega arith

        two_digits : 2 ≤ mantissa x
        two_digits = le_trans start (mantissa_ge x g r)
          where
            one : (m : ℕ) → 2 ≤ m → 1 ≤ m - 1
            one m a = omega arith

            start : 2 ^ 1 ≤ 2 ^ (x.precision - 1)
            start = pow_mono (one x.precision (precision_two x g))

        bottom : least_exponent < x.exponent
        bottom = go y.exponent x.exponent top below (h.regular q).least
          where
            go : (e d : ℕ) → t ≡ d → 64 * k + e ≤ t → least_exponent ≤ e → least_exponent < d
            go e d a b c = omega arith

        weight : size (mantissa x) + (last_weight x - y.exponent) + 1 + (y.exponent - 1) ≡ x.exponent
        weight = sum (size (mantissa x)) (last_weight x) y.exponent (last_weight x - s) first above (counted x g r s sx (last_weight x - s) (mantissa x) (mantissa x) refl (mantissa_ge x g r) (mantissa_lt x g)).1 refl
          where
            sum : (z l e b : ℕ) → s + 1 ≤ e → e ≤ l → z + (b + s) ≡ x.exponent → b ≡ l - s → z + (l - e) + 1 + (e - 1) ≡ x.exponent
            sum z l e b a d c f = omega arith

  pub beyond_judges : Judges (beyond o p x y k t s) (Pair neg o p s P x.negative y.negative xl xh yl yh) (least_end neg o p s P x.negative y.negative xl xh yl yh) (beyond_answer o p x y k t s)
  unfolding beyond beyond_answer
  beyond_judges = arm (unread t k x) (λ e. let u = some_is (unread t k x) e in far u.0 u.1) (λ e. whole_read (none_is (unread t k x) e))
    where
      whole_read : unread t k x ≡ 0 → Judges (hole_by_size o p x.negative y.negative (read_digits t k x) (last_weight x - y.exponent)) (Pair neg o p s P x.negative y.negative xl xh yl yh) (least_end neg o p s P x.negative y.negative xl xh yl yh) (hole_answer o p (y.exponent - 1) x.negative y.negative (read_digits t k x * 2 ^ (last_weight x - (y.exponent - 1))))
      whole_read e =
          let m : read_digits t k x ≡ mantissa x = digits_are t k x r ∙ ap (λ (n : ℕ). mantissa x / 2 ^ n) e ∙ div-one (mantissa x) in
          subst (λ (n : ℕ). Judges (hole_by_size o p x.negative y.negative n (last_weight x - y.exponent)) (Pair neg o p s P x.negative y.negative xl xh yl yh) (least_end neg o p s P x.negative y.negative xl xh yl yh) (hole_answer o p (y.exponent - 1) x.negative y.negative (n * 2 ^ (last_weight x - (y.exponent - 1))))) (sym m)
          (subst (λ (c : Bool). Judges c (Pair neg o p s P x.negative y.negative xl xh yl yh) (least_end neg o p s P x.negative y.negative xl xh yl yh) (hole_answer o p (y.exponent - 1) x.negative y.negative (z e))) (by_size e) (hole e))

      -- the test on the unread digits takes its arm
      arm : (u : ℕ) {c d : Bool} {B : Type 0} {i a b : Answer} → (some? u ≡ true → Judges c B i a) → (some? u ≡ false → Judges d B i b) → Judges (cond (some? u) c d) B i (cond (some? u) a b)
      arm zero m n = n refl
      arm (suc u) m n = m refl

      some_is : (u : ℕ) → some? u ≡ true → (v : ℕ) × (u ≡ suc v)
      some_is zero e = absurd (let z : ◌≡◌ {A = ℕ} 0 1 = cc in omega arith)
      some_is (suc u) e = (u, refl)

      none_is : (u : ℕ) → some? u ≡ false → u ≡ 0
      none_is zero e = refl
      none_is (suc u) e = absurd (let z : ◌≡◌ {A = ℕ} 0 1 = cc in omega arith)
