-- Where y begins k columns below x or further, and x and p + 2 digits fit in k columns, k columns fix the answer.
use mathlib.Core.Path.{◌≡◌, refl, sym, ap, ◌∙◌, subst}
use mathlib.Core.Bool.{Bool, true, false, cond, beq}
use Prim.Native.Nat.{ℕ, zero, suc, ◌+◌, ◌-◌, ◌*◌, ◌^◌, ◌≤◌, ◌<◌, min}
use native.Mathlib.Nat.{two-pow-succ, suc-mul, le_trans, le_of_eq, lt_of_lt_of_le, mul-le-mul_right, mul-one}
use native.Mathlib.Omega.{arith}
use lib.Pow.{pow_pos, pow_mono, pow-add}
use Rattle.rounding.proofs.Zeros.{amount_is}
use Rattle.numbers.specs.Operand.{Operand, mantissa, last_weight, WellFormed}
use Rattle.rounding.specs.Mode.{way}
use Rattle.rounding.specs.declared.Mode.{Mode}
use Rattle.rounding.specs.Answer.{Answer, rounded, answer}
use Rattle.rounding.specs.Sum.{amount, share, scale, zero_sign, sum_at}
use Rattle.depth.specs.Columns.{top_exponent, Like}
use Rattle.depth.specs.Read.{unread}
use Rattle.depth.specs.Depth.{plus, result, Fixed}
use Rattle.rounding.proofs.Selection.{multiple}
use Rattle.numbers.proofs.Digits.{mantissa_lt, mantissa_ge, precision_two}
use Rattle.depth.proofs.Columns.{digits_counted}
use Rattle.depth.proofs.Place.{top_first, top_ordered}
use Rattle.depth.proofs.Amounts.{low_like, like_self}
use Rattle.rounding.proofs.Ends.{plus as positive, minus as negative}
use Rattle.depth.proofs.EndsDecide.{sum_is}
use Rattle.depth.proofs.AllRead.{all_read, amount_same}
use Rattle.depth.proofs.Hole.{one_rounded}

-- the answer by the two signs and amounts
total : Bool → Mode → ℕ → ℕ → Bool → Bool → ℕ → ℕ → Answer
total n o p s a b x y = answer n o p s (cond (beq a false) x 0 + cond (beq b false) y 0) (cond (beq a true) x 0 + cond (beq b true) y 0)

total_is : (o : Mode) (p s : ℕ) (x y z w : Operand) → z.negative ≡ x.negative → w.negative ≡ y.negative → sum_at o p s z w ≡ total (zero_sign o x.negative y.negative) o p s x.negative y.negative (amount s z) (amount s w)
unfolding sum_at share total
total_is o p s x y z w e f = rw (e, f)

module _ (e : Bool) (o : Mode) (p s : ℕ) (P : 0 < p) (n c : ℕ) (room : 2 ^ (p + c) ≤ n * 2 ^ c) where
  abbrev C : ℕ
  C = 2 ^ c

  abbrev X : ℕ
  X = suc n * C

  more : 2 ^ (p + c) ≤ X
  more = let f = suc-mul n C in omega arith

  alike : (a b : Bool) (i : ℕ) → 0 < i → i < C → Answer
  alike false false i I u = rounded (way o false) p s false (suc n * C + i)
  alike true true i I u = rounded (way o true) p s true (suc n * C + i)
  alike false true i I u = rounded (way o false) p s false (n * C + (C - i))
  alike true false i I u = rounded (way o true) p s true (n * C + (C - i))

  total_alike : (a b : Bool) (i : ℕ) (I : 0 < i) (u : i < C) → total e o p s a b X i ≡ alike a b i I u
  unfolding total alike
  total_alike false false i I u = positive e o p s P (X + i) (0 + 0) (omega arith) ∙ ap (rounded (way o false) p s false) (flat (X + i))
    where
      flat : (a : ℕ) → a - (0 + 0) ≡ a
      flat a = omega arith
  total_alike true true i I u = negative e o p s P (0 + 0) (X + i) (omega arith) ∙ ap (rounded (way o true) p s true) (flat (X + i))
    where
      flat : (a : ℕ) → a - (0 + 0) ≡ a
      flat a = omega arith
  total_alike false true i I u = let f = suc-mul n C in positive e o p s P (X + 0) (0 + i) (omega arith) ∙ ap (rounded (way o false) p s false) (omega arith)
  total_alike true false i I u = let f = suc-mul n C in negative e o p s P (0 + i) (X + 0) (omega arith) ∙ ap (rounded (way o true) p s true) (omega arith)

  one_total : (a b : Bool) (i j : ℕ) → 0 < i → i < C → 0 < j → j < C → total e o p s a b X i ≡ total e o p s a b X j
  one_total a b i j I u H v = total_alike a b i I u ∙ go a b ∙ sym (total_alike a b j H v)
    where
      left : (i : ℕ) → i < C → 0 < C - i
      left i u = omega arith

      right : (i : ℕ) → 0 < i → i < C → C - i < C
      right i I u = omega arith

      go : (a b : Bool) → alike a b i I u ≡ alike a b j H v
      go false false = unfold alike in one_rounded (way o false) p s false (suc n) c more i j I H u v
      go true true = unfold alike in one_rounded (way o true) p s true (suc n) c more i j I H u v
      go false true = unfold alike in one_rounded (way o false) p s false n c room (C - i) (C - j) (left i u) (left j v) (right i I u) (right j H v)
      go true false = unfold alike in one_rounded (way o true) p s true n c room (C - i) (C - j) (left i u) (left j v) (right i I u) (right j H v)

-- ---- the weights

split_off : (g C B : ℕ) → 0 < B → C ≤ B → B + B ≤ g * C → (n : ℕ) × (g ≡ suc n) × (B ≤ n * C)
split_off zero C B b c h = absurd (omega arith)
split_off (suc n) C B b c h = (n, refl, go (suc-mul n C))
  where
    go : suc n * C ≡ n * C + C → B ≤ n * C
    go e = omega arith

module _ (o : Mode) (p : ℕ) (P : 0 < p) (x y : Operand) (g : WellFormed x) (h : WellFormed y) (r : x.is_zero ≡ false) (q : y.is_zero ≡ false)
    (k : ℕ) (K : 1 ≤ k) (far : 64 * k + y.exponent ≤ x.exponent) (m_fits : x.precision ≤ 64 * k) (p_fits : p + 2 ≤ 64 * k) where
  abbrev s : ℕ
  s = last_weight y

  abbrev a : ℕ
  a = last_weight x - last_weight y

  abbrev c : ℕ
  c = x.exponent - 64 * k - last_weight y

  t_is : top_exponent x y ≡ x.exponent
  t_is = top_ordered x y r q (omega (arith, far))

  s_is : scale x y ≡ last_weight y
  unfolding scale last_weight
  s_is = rw (r, q) (go x.exponent x.precision y.exponent y.precision far m_fits)
    where
      go : (e m f n : ℕ) → 64 * k + f ≤ e → m ≤ 64 * k → min (e - m) (f - n) ≡ f - n
      go e m f n h l = omega arith

  cut_le : c ≤ a
  unfolding last_weight
  cut_le = go x.exponent x.precision (y.exponent - y.precision) m_fits
    where
      go : (e m s : ℕ) → m ≤ 64 * k → e - 64 * k - s ≤ e - m - s
      go e m s l = omega arith

  y_fits : y.precision ≤ c
  unfolding last_weight
  y_fits = go x.exponent y.exponent y.precision far (digits_counted y h q)
    where
      go : (e f n : ℕ) → 64 * k + f ≤ e → n ≤ f → n ≤ e - 64 * k - (f - n)
      go e f n h l = omega arith

  reach : suc (p + c) ≤ x.precision - 1 + a
  unfolding last_weight
  reach = go x.exponent x.precision (y.exponent - y.precision) m_fits (precision_two x g) (below y.exponent y.precision far)
    where
      below : (f n : ℕ) → 64 * k + f ≤ x.exponent → 64 * k + (f - n) ≤ x.exponent
      below f n h = omega arith

      go : (e m s : ℕ) → m ≤ 64 * k → 2 ≤ m → 64 * k + s ≤ e → suc (p + (e - 64 * k - s)) ≤ m - 1 + (e - m - s)
      go e m s l t h = omega arith

  amount_x : amount s x ≡ mantissa x * 2 ^ (a - c) * 2 ^ c
  amount_x = amount_is s x r ∙ multiple (mantissa x) a c cut_le

  x_grid : ℕ
  x_grid = mantissa x * 2 ^ (a - c)

  room : 2 ^ (p + c) + 2 ^ (p + c) ≤ x_grid * 2 ^ c
  unfolding x_grid
  room =
      le_trans (le_of_eq (sym (two-pow-succ (p + c)))) (le_trans (pow_mono reach)
      (le_trans (le_of_eq (pow-add 2 (x.precision - 1) a)) (le_trans (mul-le-mul_right (2 ^ a) (mantissa_ge x g r)) (le_of_eq (multiple (mantissa x) a c cut_le)))))

  cut_small : 2 ^ c ≤ 2 ^ (p + c)
  cut_small = pow_mono (go c)
    where
      go : (c : ℕ) → c ≤ p + c
      go c = omega arith

  y_like : (w : Operand) → Like (top_exponent x y) k y w → (0 < amount s w) × (amount s w < 2 ^ c)
  y_like w l =
      let e : amount s w ≡ mantissa w = amount_is s w (l.is_zero ∙ q) ∙ ap (λ (z : ℕ). mantissa w * 2 ^ (z - last_weight y)) (low_like (top_exponent x y) k y w l) ∙ ap (λ (z : ℕ). mantissa w * 2 ^ z) (none (last_weight y)) ∙ mul-one (mantissa w) in (
        rw e (lt_of_lt_of_le (pow_pos (w.precision - 1)) (mantissa_ge w l.well_formed (l.is_zero ∙ q))),
        rw e (lt_of_lt_of_le (mantissa_lt w l.well_formed) (pow_mono (rw l.precision y_fits))),
      )
    where
      none : (a : ℕ) → a - a ≡ 0
      none a = omega arith

  x_read : unread (top_exponent x y) k x ≡ 0
  x_read = all_read x (top_exponent x y) k (rw t_is (go x.exponent m_fits))
    where
      go : (e : ℕ) → x.precision ≤ 64 * k → x.precision + (e - e) ≤ 64 * k
      go e h = omega arith

  sum_same : (n : (n : ℕ) × (x_grid ≡ suc n) × (2 ^ (p + c) ≤ n * 2 ^ c)) → (z w : Operand) → Like (top_exponent x y) k x z → Like (top_exponent x y) k y w → sum_at o p s z w ≡ sum_at o p s x y
  unfolding x_grid
  sum_same n z w l m =
      let t = top_exponent x y in
      let e : amount s x ≡ suc n.0 * 2 ^ c = amount_x ∙ ap (λ (v : ℕ). v * 2 ^ c) n.1 in
      let f : amount s z ≡ suc n.0 * 2 ^ c = amount_same t k s x z g (top_first x y) l (λ r. x_read) ∙ e in
      let i = y_like w m in
      let j = y_like y (like_self t k y h) in
      total_is o p s x y z w l.negative m.negative
      ∙ ap (λ (v : ℕ). total (zero_sign o x.negative y.negative) o p s x.negative y.negative v (amount s w)) f
      ∙ one_total (zero_sign o x.negative y.negative) o p s P n.0 c n.2 x.negative y.negative (amount s w) (amount s y) i.0 i.1 j.0 j.1
      ∙ ap (λ (v : ℕ). total (zero_sign o x.negative y.negative) o p s x.negative y.negative v (amount s y)) (sym e)
      ∙ sym (total_is o p s x y x y refl refl)

  pub far_fixed : Fixed plus o p x y k
  unfolding Fixed result
  far_fixed z w l m =
      let t = top_exponent x y in
      let n = split_off x_grid (2 ^ c) (2 ^ (p + c)) (pow_pos (p + c)) cut_small room in
      sum_is o p x y k z w l m
      ∙ subst (λ (v : ℕ). sum_at o p v z w ≡ sum_at o p v x y) (sym s_is) (sum_same n z w l m)
      ∙ sym (sum_is o p x y k x y (like_self t k x g) (like_self t k y h))
