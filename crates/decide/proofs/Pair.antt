-- The decision on a pair, from the least and greatest amounts of each: it holds exactly when the two ends have one sign and one answer, and then gives that answer.
use mathlib.Core.Path.{◌≡◌, refl, sym, ap, ◌∙◌, subst}
use mathlib.Core.Logic.{◌⊎◌, inl, inr}
use mathlib.Core.Bool.{Bool, true, false, not, cond, ◌||◌, beq, true≢false}
use Prim.Native.Nat.{ℕ, zero, suc, ◌+◌, ◌-◌, ◌*◌, ◌^◌, ◌≤◌, ◌<◌, compare, Ordering}
use native.Mathlib.Nat.{add-mul, le_refl, le_trans, le_of_eq, le_of_lt, lt_of_lt_of_le, lt_of_le_of_lt, le_antisymm, mul-le-mul_right, suc-mul, add_comm, add-le-add}
use native.Mathlib.Omega.{arith}
use borrow.Author.Tests.{ltb-true, ltb-false}
use lib.Dec.{ltb}
use lib.Pow.{pow_pos}
use lib.Ieee.{size}
use Rattle.rounding.specs.Mode.{Way, way}
use Rattle.rounding.specs.declared.Mode.{Mode}
use Rattle.rounding.specs.Answer.{Answer, zero_of, rounded, answer}
use Rattle.numbers.specs.Limits.{least_exponent, most_exponent}
use Rattle.rounding.proofs.Order.{Cmp, cmp, compare_at, size_mono, zero_or, sub_mul}
use Rattle.rounding.proofs.Ends.{plus as positive, minus as negative, nought}
use Rattle.decide.specs.Class.{settled}
use Rattle.decide.specs.Range.{decided, or_large, or_small}
use Rattle.decide.specs.Table.{some?, all_read, same_row, unlike_row, far_same_row, far_unlike_row, hole_same_row, hole_unlike_row, same_signs, unlike_signs, unlike_pair, seen_pair, far_same, far_unlike, hole_same, hole_unlike, far_pair, hole_pair}
use Rattle.decide.specs.Answer.{same_answer, unlike_answer, unlike_pair_answer, seen_answer, far_answer, hole_answer, decided_answer}
use Rattle.decide.proofs.Settled.{Span}
use Rattle.decide.proofs.Range.{Sides, decided_if, decided_only, only_large, only_small, no_refusal}
use Rattle.rounding.proofs.Scale.{rounded_shift}
use Rattle.decide.proofs.Answered.{decided_answer_lem}
use Rattle.decide.proofs.Rows.{Seen, seen_le, Held, last_none, last_half, same_one, same_both, unlike_unread, unlike_read, sides_same_one, sides_same_both, sides_unlike_unread, sides_unlike_read}
use Rattle.decide.proofs.RowsFar.{Unseen, unseen_le, far_same_lem, far_unlike_lem, hole_same_lem, hole_unlike_lem, sides_far_same, sides_far_unlike, sides_hole_same, sides_hole_unlike}

-- the test t decides A
pub record Decides (t : Bool) (A : Type 0) : Type 0 where
  pub sound : t ≡ true → A
  pub complete : A → t ≡ true

-- and where it holds, `is` is the answer v
pub record Judges (t : Bool) (A : Type 0) (is v : Answer) : Type 0 where
  pub sound : t ≡ true → A
  pub complete : A → t ≡ true
  pub answered : t ≡ true → is ≡ v

-- the least is a - b, the greatest c - d; neg is a zero's sign
pub record Ends (neg : Bool) (o : Mode) (p s a b c d : ℕ) : Type 0 where
  pub sign : compare a b ≡ compare c d
  pub answers : answer neg o p s a b ≡ answer neg o p s c d

module _ (neg : Bool) (o : Mode) (p s : ℕ) (P : 0 < p) where
  gt_ends : (t : Bool) (v : Answer) (a b c d : ℕ) → b < a → d < c
      → Judges t (rounded (way o false) p s false (a - b) ≡ rounded (way o false) p s false (c - d)) (rounded (way o false) p s false (a - b)) v → Judges t (Ends neg o p s a b c d) (answer neg o p s a b) v
  gt_ends t v a b c d h k e = record {
    sound = λ z. record { sign = compare_at Ordering.gt a b h ∙ sym (compare_at Ordering.gt c d k); answers = positive neg o p s P a b h ∙ e.sound z ∙ sym (positive neg o p s P c d k) };
    complete = λ z. e.complete (sym (positive neg o p s P a b h) ∙ z.answers ∙ positive neg o p s P c d k);
    answered = λ z. positive neg o p s P a b h ∙ e.answered z;
  }

  -- below zero the greatest has the least size
  lt_ends : (t : Bool) (v : Answer) (a b c d : ℕ) → a < b → c < d
      → Judges t (rounded (way o true) p s true (d - c) ≡ rounded (way o true) p s true (b - a)) (rounded (way o true) p s true (d - c)) v → Judges t (Ends neg o p s a b c d) (answer neg o p s a b) v
  lt_ends t v a b c d h k e = record {
    sound = λ z. record { sign = compare_at Ordering.lt a b h ∙ sym (compare_at Ordering.lt c d k); answers = negative neg o p s P a b h ∙ sym (e.sound z) ∙ sym (negative neg o p s P c d k) };
    complete = λ z. e.complete (sym (sym (negative neg o p s P a b h) ∙ z.answers ∙ negative neg o p s P c d k));
    answered = λ z. negative neg o p s P a b h ∙ sym (e.sound z) ∙ e.answered z;
  }

  -- same signs, and unlike ones: `g` is x's sign
  abbrev pub Sum : Bool → ℕ → ℕ → ℕ → ℕ → Type 0
  Sum false xl xh yl yh = Ends neg o p s (xl + yl) 0 (xh + yh) 0
  Sum true xl xh yl yh = Ends neg o p s 0 (xh + yh) 0 (xl + yl)

  abbrev pub Difference : Bool → ℕ → ℕ → ℕ → ℕ → Type 0
  Difference false xl xh yl yh = Ends neg o p s xl yh xh yl
  Difference true xl xh yl yh = Ends neg o p s yl xh yh xl

  -- the answers of the least ends
  abbrev pub least_sum : Bool → ℕ → ℕ → ℕ → ℕ → Answer
  least_sum false xl xh yl yh = answer neg o p s (xl + yl) 0
  least_sum true xl xh yl yh = answer neg o p s 0 (xh + yh)

  abbrev pub least_difference : Bool → ℕ → ℕ → ℕ → ℕ → Answer
  least_difference false xl xh yl yh = answer neg o p s xl yh
  least_difference true xl xh yl yh = answer neg o p s yl xh

  sum_ends : (g t : Bool) (v : Answer) (xl xh yl yh : ℕ) → 0 < xl + yl → 0 < xh + yh
      → Judges t (rounded (way o g) p s g (xl + yl) ≡ rounded (way o g) p s g (xh + yh)) (rounded (way o g) p s g (xl + yl)) v → Judges t (Sum g xl xh yl yh) (least_sum g xl xh yl yh) v
  sum_ends g t v xl xh yl yh h k e = go g (rw (flat (xl + yl), flat (xh + yh)) e)
    where
      flat : (a : ℕ) → a - 0 ≡ a
      flat a = omega arith

      go : (g : Bool) → Judges t (rounded (way o g) p s g (xl + yl - 0) ≡ rounded (way o g) p s g (xh + yh - 0)) (rounded (way o g) p s g (xl + yl - 0)) v → Judges t (Sum g xl xh yl yh) (least_sum g xl xh yl yh) v
      go false e = gt_ends t v (xl + yl) 0 (xh + yh) 0 h k e
      go true e = lt_ends t v 0 (xh + yh) 0 (xl + yl) k h e

  difference_ends : (g t : Bool) (v : Answer) (xl xh yl yh : ℕ) → yh < xl → yl < xh
      → Judges t (rounded (way o g) p s g (xl - yh) ≡ rounded (way o g) p s g (xh - yl)) (rounded (way o g) p s g (xl - yh)) v → Judges t (Difference g xl xh yl yh) (least_difference g xl xh yl yh) v
  difference_ends false t v xl xh yl yh h k e = gt_ends t v xl yh xh yl h k e
  difference_ends true t v xl xh yl yh h k e = lt_ends t v yl xh yh xl k h e

  exchanged : (g t : Bool) (v : Answer) (xl xh yl yh : ℕ) → Judges t (Difference (not g) yl yh xl xh) (least_difference (not g) yl yh xl xh) v → Judges t (Difference g xl xh yl yh) (least_difference g xl xh yl yh) v
  exchanged false t v xl xh yl yh e = e
  exchanged true t v xl xh yl yh e = e

  -- ---- the sizes of a row

  abbrev Sizes : Way → Bool → Bool → Answer → ℕ → ℕ → Type 0
  Sizes w g t v lo hi = Judges t (rounded w p s g lo ≡ rounded w p s g hi) (rounded w p s g lo) v

  judged : (w : Way) (g : Bool) (j n : ℕ) (ml half : Bool) (i : ℕ) (mg : Bool) (tail lo hi : ℕ) → Span j n ml i mg lo hi → Sides s j n half i tail lo hi → Sizes w g (decided w p (j + s) n ml half i mg tail) (decided_answer w p (j + s) g n ml half i mg) lo hi
  judged w g j n ml half i mg tail lo hi sp si = record {
    sound = decided_if w p s P j n ml half i mg tail lo hi sp si g;
    complete = decided_only w p s P j n ml half i mg tail lo hi sp si g;
    answered = λ e. decided_answer_lem w p s P g j n ml half i mg tail lo hi sp si e lo (le_refl lo) (le_of_lt sp.apart);
  }

  -- with fewer tests, where one end of the range is far
  judged_large : (w : Way) (g : Bool) (j n : ℕ) (ml half : Bool) (i : ℕ) (mg : Bool) (tail lo hi : ℕ) → Span j n ml i mg lo hi → Sides s j n half i tail lo hi → least_exponent ≤ size (n + i) + (j + s)
      → Sizes w g (or_large w p (j + s) n ml half i mg) (decided_answer w p (j + s) g n ml half i mg) lo hi
  judged_large w g j n ml half i mg tail lo hi sp si h = subst (λ (b : Bool). Sizes w g b (decided_answer w p (j + s) g n ml half i mg) lo hi) (only_large w p s P j n ml half i mg tail lo hi sp si h) (judged w g j n ml half i mg tail lo hi sp si)

  judged_small : (w : Way) (g : Bool) (j n : ℕ) (ml half : Bool) (i : ℕ) (mg : Bool) (tail lo hi : ℕ) → Span j n ml i mg lo hi → Sides s j n half i tail lo hi → size (n + i) + (j + s) ≤ most_exponent
      → Sizes w g (or_small w p (j + s) n ml i mg tail) (decided_answer w p (j + s) g n ml half i mg) lo hi
  judged_small w g j n ml half i mg tail lo hi sp si h = subst (λ (b : Bool). Sizes w g b (decided_answer w p (j + s) g n ml half i mg) lo hi) (only_small w p s P j n ml half i mg tail lo hi sp si h) (judged w g j n ml half i mg tail lo hi sp si)

  judged_plain : (w : Way) (g : Bool) (j n : ℕ) (ml half : Bool) (i : ℕ) (mg : Bool) (tail lo hi : ℕ) → Span j n ml i mg lo hi → Sides s j n half i tail lo hi → least_exponent ≤ size (n + i) + (j + s) → size (n + i) + (j + s) ≤ most_exponent
      → Sizes w g (settled w p n ml i mg) (decided_answer w p (j + s) g n ml half i mg) lo hi
  judged_plain w g j n ml half i mg tail lo hi sp si h k = subst (λ (b : Bool). Sizes w g b (decided_answer w p (j + s) g n ml half i mg) lo hi) (no_refusal w p s P j n ml half i mg tail lo hi sp si h k) (judged w g j n ml half i mg tail lo hi sp si)

  wider : (j : ℕ) {a b : ℕ} → a ≤ b → size a + (j + s) ≤ size b + (j + s)
  wider j {a} {b} h = go (size_mono a b h)
    where
      go : {x y : ℕ} → x ≤ y → x + (j + s) ≤ y + (j + s)
      go h = omega arith

  -- a sum is no shorter than its terms, a difference no longer
  sum_from : (j x y i : ℕ) → Held s j x → Held s j y → 0 < x + y → least_exponent ≤ size (x + y + i) + (j + s)
  sum_from j x y i r t h = elim (zero_or x) [
    | inl z ↦ le_trans (t.from (omega arith)) (wider j (omega arith))
    | inr k ↦ le_trans (r.from k) (wider j (omega arith))
  ]

  difference_to : (j x n : ℕ) → Held s j x → 0 < x → n ≤ x → size n + (j + s) ≤ most_exponent
  difference_to j x n r h k = le_trans (wider j k) (r.to h)

  always : {A : Type 0} {is v : Answer} → A → is ≡ v → Judges true A is v
  always a f = record { sound = λ e. a; complete = λ e. refl; answered = λ e. f }

  -- ---- both reach into what is read

  pub seen_read : (j x xl xh : ℕ) → Seen j x 0 xl xh → xh ≡ xl
  seen_read j x xl xh a = let f = last_none a.l 0 j a.cut refl in omega (arith, a.low, a.high)

  same_sizes : (w : Way) (g : Bool) (j x u xl xh y v yl yh : ℕ) → Seen j x u xl xh → Seen j y v yl yh → Held s j x → Held s j y → 0 < x + y → Sizes w g (same_signs w p (j + s) x u y v) (same_answer w p (j + s) g x u y v) (xl + yl) (xh + yh)
  unfolding same_signs same_answer same_row
  same_sizes w g j x zero xl xh y zero yl yh a b r t h = let c = seen_read j x xl xh a in let d = seen_read j y yl yh b in always (cc) (ap (rounded w p s g) whole ∙ rounded_shift w p s g (x + y) j P h)
    where
      whole : xl + yl ≡ (x + y) * 2 ^ j
      whole = let c = a.low in let d = b.low in cc (add-mul x y (2 ^ j))
  same_sizes w g j x (suc u) xl xh y zero yl yh a b r t h = judged_large w g j (x + y) false false 0 true (suc u) (xl + yl) (xh + yh) (same_one j x u xl xh y yl yh a b) (sides_same_one s j x (suc u) xl xh y 0 yl yh a b refl h) (sum_from j x y 0 r t h)
  same_sizes w g j x zero xl xh y (suc v) yl yh a b r t h =
      rw (add_comm x y, add_comm xl yl, add_comm xh yh) (judged_large w g j (y + x) false false 0 true (suc v) (yl + xl) (yh + xh) (same_one j y v yl yh x xl xh b a) (sides_same_one s j y (suc v) yl yh x 0 xl xh b a refl (omega arith)) (sum_from j y x 0 t r (omega arith)))
  same_sizes w g j x (suc u) xl xh y (suc v) yl yh a b r t h = judged_large w g j (x + y) false false 1 (some? u || some? v) 0 (xl + yl) (xh + yh) (same_both j x u xl xh y v yl yh a b) (sides_same_both s j x (suc u) xl xh y (suc v) yl yh a b h r t 0) (sum_from j x y 1 r t h)

  unlike_sizes : (w : Way) (g : Bool) (j x u xl xh y v yl yh : ℕ) → Seen j x u xl xh → Seen j y v yl yh → Held s j x → y < x → Sizes w g (unlike_signs w p (j + s) x u y v) (unlike_answer w p (j + s) g x u y v) (xl - yh) (xh - yl)
  unfolding unlike_signs unlike_answer unlike_row
  unlike_sizes w g j x zero xl xh y zero yl yh a b r h = let c = seen_read j x xl xh a in let d = seen_read j y yl yh b in always (cc) (ap (rounded w p s g) (whole d) ∙ rounded_shift w p s g (x - y) j P (omega arith))
    where
      whole : yh ≡ yl → xl - yh ≡ (x - y) * 2 ^ j
      whole d = let e = a.low in let f = b.low in let k = sub_mul x y (2 ^ j) in cc
  unlike_sizes w g j x (suc u) xl xh y zero yl yh a b r h = judged_small w g j (x - y) false false 0 true (suc u) (xl - yh) (xh - yl) (unlike_read j x u xl xh y yl yh a b h) (sides_unlike_read s j x (suc u) xl xh y 0 yl yh a b refl h) (difference_to j x (x - y + 0) r (omega arith) (omega arith))
  unlike_sizes w g j x zero xl xh y (suc v) yl yh a b r h = judged_small w g j (x - y - 1) true false 1 false 0 (xl - yh) (xh - yl) (unlike_unread j x 0 xl xh y v yl yh a b h) (sides_unlike_unread s j x 0 xl xh y (suc v) yl yh a b h r) (difference_to j x (x - y - 1 + 1) r (omega arith) (omega arith))
  unlike_sizes w g j x (suc u) xl xh y (suc v) yl yh a b r h = judged_small w g j (x - y - 1) true false 1 true (suc u) (xl - yh) (xh - yl) (unlike_unread j x (suc u) xl xh y v yl yh a b h) (sides_unlike_unread s j x (suc u) xl xh y (suc v) yl yh a b h r) (difference_to j x (x - y - 1 + 1) r (omega arith) (omega arith))

  -- what is read orders the amounts
  module _ (j x u xl xh y v yl yh : ℕ) (a : Seen j x u xl xh) (b : Seen j y v yl yh) where
    x_le : xl ≤ xh
    x_le = seen_le j x u xl xh a

    y_le : yl ≤ yh
    y_le = seen_le j y v yl yh b

    below : y < x → yh < xl
    below h = let k = mul-le-mul_right (2 ^ j) h in omega (arith, a.low, b.high, suc-mul y (2 ^ j), pow_pos b.l)

    some_x : 0 < x + y → 0 < xl + yl
    some_x h = let k = mul-le-mul_right (2 ^ j) h in omega (arith, a.low, b.low, pow_pos j)

    x_more : some? u ≡ true → xl < xh
    x_more e = go u e a.cut
      where
        go : (u : ℕ) → some? u ≡ true → a.l + u ≡ j → xl < xh
        go zero e c = absurd (let z : ◌≡◌ {A = ℕ} 0 1 = cc in omega arith)
        go (suc u) e c = let k = last_half a.l u j c in let m = pow_pos a.l in omega (arith, a.low, a.high)

    x_none : some? u ≡ false → xh ≡ xl
    x_none e = go u e a.cut
      where
        go : (u : ℕ) → some? u ≡ false → a.l + u ≡ j → xh ≡ xl
        go zero e c = let k = last_none a.l 0 j c refl in omega (arith, a.low, a.high)
        go (suc u) e c = absurd (let z : ◌≡◌ {A = ℕ} 0 1 = cc in omega arith)

  -- ends that touch zero from two sides, and are not both zero
  crossed : (a b c d : ℕ) → a ≤ b → d ≤ c → (a < b) ⊎ (d < c) → Ends neg o p s a b c d → ⊥
  crossed a b c d h k n e = go (compare a b) (cmp a b) (rw (← e.sign) at (cmp c d)) n
    where
      go : (x : Ordering) → Cmp x a b → Cmp x c d → (a < b) ⊎ (d < c) → ⊥
      go Ordering.lt u v n = omega arith
      go Ordering.eq u v (inl n) = omega arith
      go Ordering.eq u v (inr n) = omega arith
      go Ordering.gt u v n = omega arith

  equal_read : (g : Bool) (j x u xl xh y v yl yh : ℕ) → Seen j x u xl xh → Seen j y v yl yh → x ≡ y → Judges (all_read u v) (Difference g xl xh yl yh) (least_difference g xl xh yl yh) (zero_of neg)
  equal_read g j x u xl xh y v yl yh a b e = go (some? u) (some? v) refl refl
    where
      low_same : xl ≡ yl
      low_same = a.low ∙ ap (λ (z : ℕ). z * 2 ^ j) e ∙ sym b.low

      none : (g : Bool) → xh ≡ xl → yh ≡ yl → Difference g xl xh yl yh
      none false c d = let f = low_same in record { sign = cc; answers = cc }
      none true c d = let f = low_same in record { sign = cc; answers = cc }

      never : (g : Bool) → (xl < yh) ⊎ (yl < xh) → Difference g xl xh yl yh → ⊥
      never false n = crossed xl yh xh yl (le_trans (le_of_eq low_same) (y_le j x u xl xh y v yl yh a b)) (le_trans (le_of_eq (sym low_same)) (x_le j x u xl xh y v yl yh a b)) n
      never true n = crossed yl xh yh xl (le_trans (le_of_eq (sym low_same)) (x_le j x u xl xh y v yl yh a b)) (le_trans (le_of_eq low_same) (y_le j x u xl xh y v yl yh a b)) (elim n [ inl h ↦ inr h | inr h ↦ inl h ])

      refused : (xl < yh) ⊎ (yl < xh) → Judges false (Difference g xl xh yl yh) (least_difference g xl xh yl yh) (zero_of neg)
      refused n = record { sound = λ z. absurd (true≢false (sym z)); complete = λ z. absurd (never g n z); answered = λ z. absurd (true≢false (sym z)) }

      zero_sum : (g : Bool) → xh ≡ xl → yh ≡ yl → least_difference g xl xh yl yh ≡ zero_of neg
      zero_sum false c d = nought neg o p s P xl yh (low_same ∙ sym d)
      zero_sum true c d = nought neg o p s P yl xh (sym low_same ∙ sym c)

      go : (c d : Bool) → some? u ≡ c → some? v ≡ d → Judges (not (c || d)) (Difference g xl xh yl yh) (least_difference g xl xh yl yh) (zero_of neg)
      go false false i k = let c = x_none j x u xl xh y v yl yh a b i in let d = x_none j y v yl yh x u xl xh b a k in always (none g c d) (zero_sum g c d)
      go true d i k = refused (inr (lt_of_le_of_lt (le_of_eq (sym low_same)) (x_more j x u xl xh y v yl yh a b i)))
      go false true i k = refused (inl (lt_of_le_of_lt (le_of_eq low_same) (x_more j y v yl yh x u xl xh b a k)))

  unlike_pair_lem : (g : Bool) (j x u xl xh y v yl yh : ℕ) → Seen j x u xl xh → Seen j y v yl yh → Held s j x → Held s j y → Judges (unlike_pair o p (j + s) g x u y v) (Difference g xl xh yl yh) (least_difference g xl xh yl yh) (unlike_pair_answer neg o p (j + s) g x u y v)
  unfolding unlike_pair unlike_pair_answer
  unlike_pair_lem g j x u xl xh y v yl yh a b r t = go (ltb y x) (ltb x y) refl refl
    where
      larger : (g : Bool) (x u xl xh y v yl yh : ℕ) → Seen j x u xl xh → Seen j y v yl yh → Held s j x → y < x → Judges (unlike_signs (way o g) p (j + s) x u y v) (Difference g xl xh yl yh) (least_difference g xl xh yl yh) (unlike_answer (way o g) p (j + s) g x u y v)
      larger g x u xl xh y v yl yh a b r h =
          let k = below j x u xl xh y v yl yh a b h in
          difference_ends g _ _ xl xh yl yh k (lt_of_le_of_lt (y_le j x u xl xh y v yl yh a b) (lt_of_lt_of_le k (x_le j x u xl xh y v yl yh a b))) (unlike_sizes (way o g) g j x u xl xh y v yl yh a b r h)

      go : (c d : Bool) → ltb y x ≡ c → ltb x y ≡ d
          → Judges (cond c (unlike_signs (way o g) p (j + s) x u y v) (cond d (unlike_signs (way o (not g)) p (j + s) y v x u) (all_read u v))) (Difference g xl xh yl yh) (least_difference g xl xh yl yh)
          (cond c (unlike_answer (way o g) p (j + s) g x u y v) (cond d (unlike_answer (way o (not g)) p (j + s) (not g) y v x u) (zero_of neg)))
      go true d e f = larger g x u xl xh y v yl yh a b r (ltb-true y x e)
      go false true e f = exchanged g _ _ xl xh yl yh (larger (not g) y v yl yh x u xl xh b a t (ltb-true x y f))
      go false false e f = equal_read g j x u xl xh y v yl yh a b (le_antisymm (ltb-false y x e) (ltb-false x y f))

  -- the two ends, by the signs of x and y
  abbrev pub Pair : Bool → Bool → ℕ → ℕ → ℕ → ℕ → Type 0
  Pair false false xl xh yl yh = Sum false xl xh yl yh
  Pair true true xl xh yl yh = Sum true xl xh yl yh
  Pair false true xl xh yl yh = Difference false xl xh yl yh
  Pair true false xl xh yl yh = Difference true xl xh yl yh

  abbrev pub least_end : Bool → Bool → ℕ → ℕ → ℕ → ℕ → Answer
  least_end false false xl xh yl yh = least_sum false xl xh yl yh
  least_end true true xl xh yl yh = least_sum true xl xh yl yh
  least_end false true xl xh yl yh = least_difference false xl xh yl yh
  least_end true false xl xh yl yh = least_difference true xl xh yl yh

  by_signs : (a b t f : Bool) (v w : Answer) (xl xh yl yh : ℕ) → Judges t (Sum a xl xh yl yh) (least_sum a xl xh yl yh) v → Judges f (Difference a xl xh yl yh) (least_difference a xl xh yl yh) w
      → Judges (cond (beq a b) t f) (Pair a b xl xh yl yh) (least_end a b xl xh yl yh) (cond (beq a b) v w)
  by_signs false false t f v w xl xh yl yh d e = d
  by_signs true true t f v w xl xh yl yh d e = d
  by_signs false true t f v w xl xh yl yh d e = e
  by_signs true false t f v w xl xh yl yh d e = e

  pub seen_pair_lem : (a b : Bool) (j x u xl xh y v yl yh : ℕ) → Seen j x u xl xh → Seen j y v yl yh → Held s j x → Held s j y → 0 < x + y → Judges (seen_pair o p (j + s) a b x u y v) (Pair a b xl xh yl yh) (least_end a b xl xh yl yh) (seen_answer neg o p (j + s) a b x u y v)
  unfolding seen_pair seen_answer
  seen_pair_lem a b j x u xl xh y v yl yh c d r t h =
      let k = some_x j x u xl xh y v yl yh c d h in
      by_signs a b (same_signs (way o a) p (j + s) x u y v) (unlike_pair o p (j + s) a x u y v) _ _ xl xh yl yh
      (sum_ends a _ _ xl xh yl yh k (lt_of_lt_of_le k (add-le-add (x_le j x u xl xh y v yl yh c d) (y_le j x u xl xh y v yl yh c d))) (same_sizes (way o a) a j x u xl xh y v yl yh c d r t h))
      (unlike_pair_lem a j x u xl xh y v yl yh c d r t)

  -- ---- nothing of y is read

  pub far_pair_lem : (a b : Bool) (j x u xl xh g f yl yh : ℕ) → Seen j x (suc u) xl xh → Unseen g yl yh → g + suc f ≡ j → Held s j x → 0 < x → Judges (far_pair o p (j + s) a b x (suc u) f) (Pair a b xl xh yl yh) (least_end a b xl xh yl yh) (far_answer o p (j + s) a b x (suc u) f)
  unfolding far_pair far_answer far_same far_unlike far_same_row far_unlike_row
  far_pair_lem a b j x u xl xh g f yl yh c d e r h =
      by_signs a b (far_same (way o a) p (j + s) x (suc u) f) (far_unlike (way o a) p x (suc u) f) _ _ xl xh yl yh
      (sum_ends a _ _ xl xh yl yh (omega (arith, pow_pos g, d.low)) (omega (arith, pow_pos g, d.low, unseen_le d, high_le)) (judged_large (way o a) a j x true (not (some? f)) (cond (ltb f (suc u)) 1 0) true 0 (xl + yl) (xh + yh) (far_same_lem s j x u xl xh g f yl yh c d e) (sides_far_same s j x u xl xh g f yl yh c d e h r (cond (ltb f (suc u)) 1 0) 0) (le_trans (r.from h) (wider j (more x (cond (ltb f (suc u)) 1 0))))))
      (difference_ends a _ _ xl xh yl yh apart (lt_of_le_of_lt (unseen_le d) (lt_of_lt_of_le apart high_le))
      (judged_plain (way o a) a j (x - 1) true false 1 (some? (suc u - 1) || some? f) 0 (xl - yh) (xh - yl) (subst (λ (z : ℕ). Span j (x - 1) true 1 (some? z || some? f) (xl - yh) (xh - yl)) (sym (pred u)) (far_unlike_lem s j x u xl xh g f yl yh c d e h)) (sides_far_unlike s j x u xl xh g f yl yh c d e h r 0) (le_trans (r.from h) (wider j (omega arith))) (difference_to j x (x - 1 + 1) r h (omega arith))))
    where
      pred : (u : ℕ) → suc u - 1 ≡ u
      pred u = omega arith

      more : (a b : ℕ) → a ≤ a + b
      more a b = omega arith

      high_le : xl ≤ xh
      high_le = let k = last_half c.l u j c.cut in omega (arith, c.low, c.high)

      apart : yh < xl
      apart = let k = last_half g f j e in let m = mul-le-mul_right (2 ^ j) h in omega (arith, c.low, d.high, pow_pos d.l)

  pub hole_pair_lem : (a b : Bool) (z xl g yl yh : ℕ) → xl ≡ z * 2 ^ g → Unseen g yl yh → 2 ≤ z → Held s g z → Judges (hole_pair o p (g + s) a b z) (Pair a b xl xl yl yh) (least_end a b xl xl yl yh) (hole_answer o p (g + s) a b z)
  unfolding hole_pair hole_answer hole_same hole_unlike hole_same_row hole_unlike_row
  hole_pair_lem a b z xl g yl yh e d h r =
      by_signs a b (hole_same (way o a) p (g + s) z) (hole_unlike (way o a) p (g + s) z) _ _ xl xl yl yh
      (sum_ends a _ _ xl xl yl yh (omega (arith, pow_pos g, d.low)) (omega (arith, pow_pos g, d.low, unseen_le d)) (judged (way o a) a g (z + 1) false false 0 true 0 (xl + yl) (xl + yh) (hole_same_lem s z xl g yl yh e d h r) (sides_hole_same s z xl g yl yh e d h r)))
      (difference_ends a _ _ xl xl yl yh apart (lt_of_le_of_lt (unseen_le d) apart) (judged (way o a) a g (z - 2) true false 1 false 0 (xl - yh) (xl - yl) (hole_unlike_lem s z xl g yl yh e d h r) (sides_hole_unlike s z xl g yl yh e d h r)))
    where
      apart : yh < xl
      apart = let m = mul-le-mul_right (2 ^ g) h in omega (arith, d.high, pow_pos d.l)
