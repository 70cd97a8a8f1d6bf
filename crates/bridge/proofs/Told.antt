-- The decision on two operands, and its answer, are those on the row and the sum of the read parts.
use mathlib.Core.Path.{◌≡◌, refl, sym, ap, ◌∙◌, subst}
use mathlib.Core.Logic.{inl, inr}
use mathlib.Core.Bool
use mathlib.Core.Bool.{Bool, true, false, not, cond, ◌||◌, true≢false, and-false, or-false}
use Prim.Native.Nat.{ℕ, zero, suc, ◌+◌, ◌-◌, ◌*◌, ◌/◌, ◌^◌, ◌≤◌, ◌<◌, max}
use native.Mathlib.Nat.{le_refl, le_trans, le_of_eq, zero-mul}
use native.Mathlib.Omega.{arith}
use borrow.Author.Tests.{lt-ltb, le-ltb, le-leb, lt-leb, ne_eqb}
use lib.Dec.{ltb, eqb}
use lib.Ieee.{size}
use Rattle.rounding.proofs.Units.{scale_first, scale_second}
use Rattle.decide.proofs.HoleTest.{eqb_none}
use Rattle.columns.proofs.Reading.{read_early}
use Rattle.rounding.proofs.Order.{zero_or}
use Rattle.numbers.specs.Operand.{Operand, mantissa, last_weight}
use Rattle.numbers.proofs.Digits.{precision_two}
use Rattle.rounding.specs.Mode.{Way, way}
use Rattle.rounding.specs.declared.Mode.{Mode}
use Rattle.rounding.specs.Answer.{too_large, too_small}
use Rattle.rounding.specs.Sum.{scale, amount, zero_sign}
use Rattle.depth.specs.Columns.{top_exponent}
use Rattle.depth.specs.Read.{unread}
use Rattle.depth.proofs.Columns.{digits_counted}
use Rattle.depth.proofs.Place.{top_ordered}
use Rattle.depth.proofs.Reach.{end}
use Rattle.decide.specs.Range.{large?, small?, or_small}
use Rattle.decide.specs.Table.{some?, all_read, same_signs, unlike_signs, unlike_pair, seen_pair, far_pair, far_same, far_unlike, hole_by_size, same_row, unlike_row}
use Rattle.decide.specs.Decide.{reaches?, read_part, left_over, beyond, decide_at}
use Rattle.decide.specs.Answer.{seen_answer, same_answer, unlike_answer, unlike_pair_answer, far_answer, beyond_answer, answer_at}
use Rattle.decide.proofs.Rows.{Seen, Held, same_one, sides_same_one}
use Rattle.decide.proofs.Range.{only_large, only_small}
use Rattle.decide.proofs.ReadPart.{seen_is, seen_held, seen_pos}
use Rattle.decide.proofs.Beyond.{read_is}
use Rattle.decide.proofs.Decision.{reached, not_reaching, read_nil, left_is}
use Rattle.decide.proofs.HoleVerdict.{InHole, hole_by_size_lem}
use Rattle.columns.specs.Column.{read_to}
use Rattle.settle.specs.Rows.{row_of}
use Rattle.settle.specs.declared.rows.Pair.{Pair}
use Rattle.settle.specs.declared.rows.Row.{Row}
use Rattle.bridge.specs.Verdict.{pair_of, Ordered, is_far, open_digits, read_sum, settled_by, refused_by, test_by}
use Rattle.bridge.proofs.Read.{read_part_lem}
use Rattle.bridge.proofs.Rows.{ltb_some, row_seen, row_far, row_seen_lem, row_alone, row_far_lem, same_verdict, unlike_verdict, far_same_verdict, far_unlike_verdict, answer_by, same_answer_lem, unlike_answer_lem, far_same_answer, far_unlike_answer, same_refused, unlike_refused, far_refused}

-- ---- the pair

pub pair_first : (x y : Operand) → (pair_of x y).first ≡ x.precision
unfolding pair_of
pair_first x y = refl

pub pair_top : (x y : Operand) → (pair_of x y).top ≡ x.exponent
unfolding pair_of
pair_top x y = refl

pub pair_second : (x y : Operand) → y.is_zero ≡ false → (pair_of x y).second ≡ y.precision
unfolding pair_of
pair_second x y e = rw e

pub pair_gap : (x y : Operand) → y.is_zero ≡ false → (pair_of x y).gap ≡ x.exponent - y.exponent
unfolding pair_of
pair_gap x y e = rw e

pub pair_same : (x y : Operand) → y.is_zero ≡ false → (pair_of x y).same ≡ Bool.beq x.negative y.negative
unfolding pair_of
pair_same x y e = rw e (go x.negative y.negative)
  where
    go : (a b : Bool) → cond a b (not b) ≡ Bool.beq a b
    go true true = refl
    go true false = refl
    go false true = refl
    go false false = refl

pub alone_second : (x y : Operand) → y.is_zero ≡ true → (pair_of x y).second ≡ 0
unfolding pair_of
alone_second x y e = rw e

pub alone_gap : (x y : Operand) → y.is_zero ≡ true → (pair_of x y).gap ≡ 0
unfolding pair_of
alone_gap x y e = rw e

pub alone_same : (x y : Operand) → y.is_zero ≡ true → (pair_of x y).same ≡ true
unfolding pair_of
alone_same x y e = rw e

-- so the second of unlike signs is regular
pub unlike_regular : (x y : Operand) → (pair_of x y).same ≡ false → y.is_zero ≡ false
unlike_regular x y f = go y.is_zero refl
  where
    go : (z : Bool) → y.is_zero ≡ z → y.is_zero ≡ false
    go true e = absurd (true≢false (sym (alone_same x y e) ∙ f))
    go false e = e

-- ---- the tests of the range on the pair

module _ (s : Pair) (k : ℕ) where
  pub near_second : s.gap < 64 * k → is_far s k ≡ false
  unfolding is_far
  near_second h = rw (lt-leb (64 * k) s.gap h) (and-false (not (eqb s.second 0)))

  pub no_second : s.second ≡ 0 → is_far s k ≡ false
  unfolding is_far
  no_second h = rw h

  pub far_second : 0 < s.second → 64 * k ≤ s.gap → is_far s k ≡ true
  unfolding is_far
  far_second h g = rw (ne_eqb s.second 0 (some h), le-leb (64 * k) s.gap g)
    where
      some : 0 < s.second → s.second ≡ 0 → ⊥
      some h e = omega arith

  module _ (w : Way) (p D : ℕ) where
    refused_same_seen : s.same ≡ true → is_far s k ≡ false → refused_by w p s k D ≡ large? w p (s.top - 64 * k) D false false
    unfolding refused_by
    refused_same_seen e f = rw (f, e)

    refused_unlike_seen : s.same ≡ false → is_far s k ≡ false → refused_by w p s k D ≡ small? w p (s.top - 64 * k) D (some? (s.first - 64 * k)) (s.first - 64 * k)
    unfolding refused_by open_digits
    refused_unlike_seen e f = rw (f, ltb_some 0 (s.first - 64 * k), flat (s.first - 64 * k), e)
      where
        flat : (n : ℕ) → n - 0 ≡ n
        flat n = omega arith

    refused_same_far : s.same ≡ true → is_far s k ≡ true → refused_by w p s k D ≡ large? w p (s.top - 64 * k) D true (eqb s.gap (64 * k))
    unfolding refused_by
    refused_same_far e f = rw (f, e)

    refused_unlike_far : s.same ≡ false → is_far s k ≡ true → refused_by w p s k D ≡ false
    unfolding refused_by
    refused_unlike_far e f = rw (f, e)

-- ---- all is read, or some of it is not

seen_all : (o : Mode) (p e : ℕ) (a b : Bool) (X Y : ℕ) → seen_pair o p e a b X 0 Y 0 ≡ true
unfolding seen_pair same_signs unlike_pair unlike_signs
seen_all o p e a b X Y = go (Bool.beq a b) (ltb Y X) (ltb X Y)
  where
    go : (a b c : Bool) → cond a true (cond b true (cond c true true)) ≡ true
    go true b c = refl
    go false true c = refl
    go false false true = refl
    go false false false = refl

alone_row : (u : ℕ) → row_seen false u 0 ≡ row_seen true u 0
unfolding row_seen
alone_row zero = refl
alone_row (suc u) = refl

-- ---- weights, over plain variables: m and n are precisions, d is how far the second begins below t, c counts the digits read

-- the columns end above the scale
abbrev Cut : ℕ → ℕ → ℕ → Type 0
Cut c t s = (c < t) × (s ≤ t - c)

first_cut : (m c t s : ℕ) → m ≤ t → s ≤ t - m → 0 < m - c → Cut c t s
first_cut m c t s h i j = (omega arith, omega arith)

second_cut : (n e c t s : ℕ) → n ≤ e → e ≤ t → s ≤ e - n → 0 < t - e + n - c → Cut c t s
second_cut n e c t s h i j l = (omega arith, omega arith)

second_left : (n d c : ℕ) → d < c → n - (c - d) ≡ d + n - c
second_left n d c h = omega arith

module _ (o : Mode) (p : ℕ) (P : 0 < p) (x y : Operand) (k : ℕ) (d : Ordered x y) (K : 1 ≤ k) where
  abbrev a : Bool
  a = x.negative

  abbrev b : Bool
  b = y.negative

  abbrev t : ℕ
  t = x.exponent

  abbrev c : ℕ
  c = 64 * k

  abbrev s : ℕ
  s = scale x y

  abbrev q : Pair
  q = pair_of x y

  abbrev w : Way
  w = way o a

  abbrev u : ℕ
  u = x.precision - c

  abbrev X : ℕ
  X = read_to k 0 x.limbs

  abbrev neg : Bool
  neg = zero_sign o a b

  -- what the columns tell on a row
  pub record Told (half : Bool) (row : Row) : Type 0 where
    pub tests : decide_at o p x y k ≡ test_by o p x y k row
    pub answer : answer_at o p x y k ≡ answer_by w p (t - c) a (read_sum x y k) half row
    pub refused : settled_by w p (read_sum x y k) row ≡ false → refused_by w p q k (read_sum x y k) ≡ true → answer_at o p x y k ≡ cond q.same too_large too_small
    pub room : 1 ≤ t - c

  pub top_is : top_exponent x y ≡ t
  unfolding top_exponent
  top_is = go y.is_zero refl
    where
      go : (z : Bool) → y.is_zero ≡ z → cond x.is_zero y.exponent (cond y.is_zero x.exponent (max x.exponent y.exponent)) ≡ t
      go true e = rw (d.regular, e)
      go false e = top_ordered x y d.regular e (d.order e)

  pub flat : t - t < c
  flat = go t
    where
      go : (t : ℕ) → t - t < 64 * k
      go t = omega arith

  under : {m n : ℕ} → m < n → m ≤ n
  under h = omega arith

  pub none : (n : ℕ) → n - n ≡ 0
  none n = omega arith

  pub left_first : left_over t k x ≡ u
  unfolding unread
  left_first = left_is t k x d.regular ∙ ap (λ (n : ℕ). x.precision - (c - n)) (none t) ∙ go x.precision c
    where
      go : (m c : ℕ) → m - (c - 0) ≡ m - c
      go m c = omega arith

  pub first_weight : s ≤ last_weight x
  first_weight = scale_first x y d.regular

  first_open : 0 < u → Cut c t s
  unfolding last_weight
  first_open h = first_cut x.precision c t s (digits_counted x d.first d.regular) first_weight h

  first_read : Cut c t s → read_part t k s x ≡ X
  first_read h = read_part_lem x d.first d.regular t k s (le_refl t) first_weight flat (under h.0) h.1 ∙ ap (λ (n : ℕ). read_to k n x.limbs) (none t)

  unit_is : s ≤ t - c → t - c - s + s ≡ t - c
  unit_is h = go (t - c) h
    where
      go : (e : ℕ) → s ≤ e → e - s + s ≡ e
      go e h = omega arith

  -- both reach into what is read
  pub seen_decide : (v : ℕ) → reaches? t k y ≡ true → left_over t k y ≡ v → decide_at o p x y k ≡ seen_pair o p (t - c - s + s) a b (read_part t k s x) u (read_part t k s y) v
  unfolding decide_at
  seen_decide v e f = let i = top_is in let j = left_first in let l = reached t k x flat in cc

  pub seen_answer_lem : (v : ℕ) → reaches? t k y ≡ true → left_over t k y ≡ v → answer_at o p x y k ≡ seen_answer neg o p (t - c - s + s) a b (read_part t k s x) u (read_part t k s y) v
  unfolding answer_at
  seen_answer_lem v e f = let i = top_is in let j = left_first in let l = reached t k x flat in cc

  -- ---- the sum of the read parts

  pub sum_same : y.is_zero ≡ false → q.same ≡ true → read_sum x y k ≡ X + read_to k (t - y.exponent) y.limbs
  unfolding read_sum
  sum_same e f = rw (pair_gap x y e, f, e)

  pub sum_unlike : y.is_zero ≡ false → q.same ≡ false → read_sum x y k ≡ X - read_to k (t - y.exponent) y.limbs
  unfolding read_sum
  sum_unlike e f = rw (pair_gap x y e, f, e)

  pub sum_alone : y.is_zero ≡ true → read_sum x y k ≡ X
  unfolding read_sum
  sum_alone e = rw (alone_same x y e, e) (flat X)
    where
      flat : (n : ℕ) → n + 0 ≡ n
      flat n = omega arith

  -- ---- both tests

  test_is : (D : ℕ) (row : Row) (r : Bool) → read_sum x y k ≡ D → refused_by w p q k D ≡ r → test_by o p x y k row ≡ (settled_by w p D row || r)
  unfolding test_by
  test_is D row r e f = ap (λ (n : ℕ). settled_by w p n row || refused_by w p q k n) e ∙ ap (λ (z : Bool). settled_by w p D row || z) f

  -- what a row answers, once D and the range test are known
  told : (half : Bool) (row : Row) (D : ℕ) (r : Bool) → read_sum x y k ≡ D → refused_by w p q k D ≡ r → decide_at o p x y k ≡ (settled_by w p D row || r) → answer_at o p x y k ≡ answer_by w p (t - c) a D half row
      → (settled_by w p D row ≡ false → r ≡ true → answer_by w p (t - c) a D half row ≡ cond q.same too_large too_small) → c < t → Told half row
  told half row D r e f i j l h = record {
    tests = i ∙ sym (test_is D row r e f);
    answer = j ∙ ap (λ (n : ℕ). answer_by w p (t - c) a n half row) (sym e);
    refused = λ m n. j ∙ l (ap (λ (v : ℕ). settled_by w p v row) (sym e) ∙ m) (sym f ∙ ap (refused_by w p q k) (sym e) ∙ n);
    room = some c t h;
  }
    where
      some : (c t : ℕ) → c < t → 1 ≤ t - c
      some c t h = omega arith

  pub same_pair : (e X u Y v : ℕ) → Bool.beq a b ≡ true → (seen_pair o p e a b X u Y v ≡ same_signs w p e X u Y v) × (seen_answer neg o p e a b X u Y v ≡ same_answer w p e a X u Y v)
  unfolding seen_pair seen_answer
  same_pair e X u Y v h = (rw h, rw h)

  pub unlike_pair_lem : (e X u Y v : ℕ) → Bool.beq a b ≡ false → Y < X → (seen_pair o p e a b X u Y v ≡ unlike_signs w p e X u Y v) × (seen_answer neg o p e a b X u Y v ≡ unlike_answer w p e a X u Y v)
  unfolding seen_pair seen_answer unlike_pair unlike_pair_answer
  unlike_pair_lem e X u Y v h l = (rw (h, lt-ltb Y X l), rw (h, lt-ltb Y X l))

  -- ---- both are regular

  module _ (e : y.is_zero ≡ false) where
    abbrev gap : ℕ
    gap = t - y.exponent

    abbrev v : ℕ
    v = gap + y.precision - c

    abbrev Y : ℕ
    Y = read_to k gap y.limbs

    pub second_weight : s ≤ last_weight y
    second_weight = scale_second x y e

    pub second_some : 0 < q.second
    second_some = rw (pair_second x y e) (le_trans (omega arith) (precision_two y d.second))

    -- and reach into what is read
    module _ (near : gap < c) where
      pub left_second : left_over t k y ≡ v
      unfolding unread
      left_second = left_is t k y e ∙ second_left y.precision gap c near

      open_cut : 0 < u + v → Cut c t s
      open_cut h = elim (zero_or u) [ inr l ↦ first_open l | inl z ↦ second_open (rest u v z h) ]
        where
          rest : (u v : ℕ) → u ≡ 0 → 0 < u + v → 0 < v
          rest u v z h = omega arith

          second_open : 0 < v → Cut c t s
          second_open h = unfold last_weight in second_cut y.precision y.exponent c t s (digits_counted y d.second e) (d.order e) second_weight h

      second_read : Cut c t s → read_part t k s y ≡ Y
      second_read h = read_part_lem y d.second e t k s (d.order e) second_weight near (under h.0) h.1

      pub row_near : row_of q k ≡ row_seen q.same u v
      row_near = row_seen_lem q k second_some (rw (pair_gap x y e) near) ∙ (let i = pair_first x y in let j = pair_gap x y e in let l = pair_second x y e in cc)

      near_is : is_far q k ≡ false
      near_is = near_second q k (rw (pair_gap x y e) near)

      pub seen : reaches? t k y ≡ true
      seen = reached t k y near

      pub told_same : q.same ≡ true → 0 < u + v → Told false (row_seen true u v)
      told_same f h =
          let z = open_cut h in
          let beq : Bool.beq a b ≡ true = sym (pair_same x y e) ∙ f in
          let i = first_read z in let j = second_read z in let l = unit_is z.1 in
          let pairs : seen_pair o p (t - c - s + s) a b (read_part t k s x) u (read_part t k s y) v ≡ seen_pair o p (t - c) a b X u Y v = cc in
          let answers : seen_answer neg o p (t - c - s + s) a b (read_part t k s x) u (read_part t k s y) v ≡ seen_answer neg o p (t - c) a b X u Y v = cc in
          let n = same_pair (t - c) X u Y v beq in
          told false (row_seen true u v) (X + Y) (large? w p (t - c) (X + Y) false false) (sum_same e f)
          (refused_same_seen q k w p (X + Y) f near_is ∙ ap (λ (m : ℕ). large? w p (m - c) (X + Y) false false) (pair_top x y))
          (seen_decide v seen left_second ∙ pairs ∙ n.0 ∙ same_verdict w p (t - c) X Y u v)
          (seen_answer_lem v seen left_second ∙ answers ∙ n.1 ∙ same_answer_lem w p (t - c) a X Y u v)
          (λ m r. same_refused w p (t - c) a (X + Y) u v h m r ∙ sym (ap (λ (b : Bool). cond b too_large too_small) f))
          z.0

      pub told_unlike : q.same ≡ false → Y < X → 0 < u + v → Told false (row_seen false u v)
      told_unlike f lt h =
          let z = open_cut h in
          let beq : Bool.beq a b ≡ false = sym (pair_same x y e) ∙ f in
          let i = first_read z in let j = second_read z in let l = unit_is z.1 in
          let pairs : seen_pair o p (t - c - s + s) a b (read_part t k s x) u (read_part t k s y) v ≡ seen_pair o p (t - c) a b X u Y v = cc in
          let answers : seen_answer neg o p (t - c - s + s) a b (read_part t k s x) u (read_part t k s y) v ≡ seen_answer neg o p (t - c) a b X u Y v = cc in
          let n = unlike_pair_lem (t - c) X u Y v beq lt in
          told false (row_seen false u v) (X - Y) (small? w p (t - c) (X - Y) (some? u) u) (sum_unlike e f)
          (refused_unlike_seen q k w p (X - Y) f near_is ∙ (let i = pair_top x y in let j = pair_first x y in cc))
          (seen_decide v seen left_second ∙ pairs ∙ n.0 ∙ unlike_verdict w p (t - c) X Y u v lt)
          (seen_answer_lem v seen left_second ∙ answers ∙ n.1 ∙ unlike_answer_lem w p (t - c) a X Y u v)
          (λ m r. unlike_refused w p (t - c) a (X - Y) u v h (positive X Y lt) m r ∙ sym (ap (λ (b : Bool). cond b too_large too_small) f))
          z.0
        where
          positive : (X Y : ℕ) → Y < X → 0 < X - Y
          positive X Y h = omega arith

      pub all_decided : u ≡ 0 → v ≡ 0 → decide_at o p x y k ≡ true
      all_decided f h = seen_decide v seen left_second ∙ ap (λ (m : ℕ). seen_pair o p (t - c - s + s) a b (read_part t k s x) m (read_part t k s y) v) f ∙ ap (λ (m : ℕ). seen_pair o p (t - c - s + s) a b (read_part t k s x) 0 (read_part t k s y) m) h ∙ seen_all o p (t - c - s + s) a b (read_part t k s x) (read_part t k s y)

      pub equal_parts : q.same ≡ false → Y ≡ X → decide_at o p x y k ≡ all_read u v
      equal_parts f h = elim (zero_or (u + v)) [ inl z ↦ all_decided (none_sum u v z).0 (none_sum u v z).1 ∙ sym (rw ((none_sum u v z).0, (none_sum u v z).1)) | inr l ↦ some_left l ]
        where
          none_sum : (m n : ℕ) → m + n ≡ 0 → (m ≡ 0) × (n ≡ 0)
          none_sum m n e = (omega arith, omega arith)

          level : (m n : ℕ) → n ≡ m → seen_pair o p (t - c) a b m u n v ≡ all_read u v
          level m n i = unfold seen_pair unlike_pair in rw (sym (pair_same x y e) ∙ f, le-ltb n m (le_of_eq (sym i)), le-ltb m n (le_of_eq i))

          some_left : 0 < u + v → decide_at o p x y k ≡ all_read u v
          some_left l =
              let z = open_cut l in
              let i = first_read z in let j = second_read z in let n = unit_is z.1 in
              let pairs : seen_pair o p (t - c - s + s) a b (read_part t k s x) u (read_part t k s y) v ≡ seen_pair o p (t - c) a b X u Y v = cc in
              seen_decide v seen left_second ∙ pairs ∙ level X Y h

    -- nothing of y is read
    module _ (far : c ≤ gap) where
      abbrev f : ℕ
      f = gap - c

      f_is : t - c - y.exponent ≡ f
      f_is = go t y.exponent c
        where
          go : (t e c : ℕ) → t - c - e ≡ t - e - c
          go t e c = omega arith

      far_cut : Cut c t s
      far_cut = unfold last_weight in go y.exponent y.precision (digits_counted y d.second e) (precision_two y d.second) far second_weight
        where
          go : (e m : ℕ) → m ≤ e → 2 ≤ m → c ≤ t - e → s ≤ e - m → Cut c t s
          go e m h i j l = (omega arith, omega arith)

      unread_first : unread t k x ≡ u
      unread_first = sym (left_is t k x d.regular) ∙ left_first

      pub none_read : Y ≡ 0
      none_read = read_early gap y.limbs d.second.limb k far

      pub row_beyond : row_of q k ≡ row_far q.same u f
      row_beyond = row_far_lem q k second_some (rw (pair_gap x y e) far) ∙ (let i = pair_first x y in let j = pair_gap x y e in cc)

      far_is : is_far q k ≡ true
      far_is = far_second q k second_some (rw (pair_gap x y e) far)

      -- some of x is unread
      module _ (m : ℕ) (left : u ≡ suc m) where
        far_decide : decide_at o p x y k ≡ far_pair o p (t - c) a b X (suc m) f
        unfolding decide_at beyond
        far_decide =
            let i = top_is in let j = reached t k x flat in let l = not_reaching t k y e far in
            let n : unread t k x ≡ suc m = unread_first ∙ left in
            let z : some? (unread t k x) ≡ true = ap some? n in
            let v = f_is in let r = first_read far_cut in let u = unit_is far_cut.1 in cc

        far_answer_lem : answer_at o p x y k ≡ far_answer o p (t - c) a b X (suc m) f
        unfolding answer_at beyond_answer
        far_answer_lem =
            let i = top_is in let j = reached t k x flat in let l = not_reaching t k y e far in
            let n : unread t k x ≡ suc m = unread_first ∙ left in
            let z : some? (unread t k x) ≡ true = ap some? n in
            let v = f_is in let r = first_read far_cut in let u = unit_is far_cut.1 in cc

        same_far : Bool.beq a b ≡ true → (far_pair o p (t - c) a b X (suc m) f ≡ far_same w p (t - c) X (suc m) f) × (far_answer o p (t - c) a b X (suc m) f ≡ answer_by w p (t - c) a X (not (some? f)) (row_far true (suc m) f))
        unfolding far_pair far_answer
        same_far h = (rw h, rw h (far_same_answer w p (t - c) a X m f))

        unlike_far : Bool.beq a b ≡ false → (far_pair o p (t - c) a b X (suc m) f ≡ far_unlike w p X (suc m) f) × (far_answer o p (t - c) a b X (suc m) f ≡ answer_by w p (t - c) a X false (row_far false (suc m) f))
        unfolding far_pair far_answer
        unlike_far h = (rw h, rw h (far_unlike_answer w p (t - c) a X m f))

        pub told_far_same : q.same ≡ true → Told (not (some? f)) (row_far true (suc m) f)
        told_far_same h =
            let n = same_far (sym (pair_same x y e) ∙ h) in
            told (not (some? f)) (row_far true (suc m) f) X (large? w p (t - c) X true (not (some? f)))
            (sum_same e h ∙ ap (λ (z : ℕ). X + z) none_read ∙ more X)
            (refused_same_far q k w p X h far_is ∙ (let i = pair_top x y in let j = pair_gap x y e in let l = eqb_none gap c far in cc))
            (far_decide ∙ n.0 ∙ far_same_verdict w p (t - c) X m f)
            (far_answer_lem ∙ n.1)
            (λ i r. far_refused w p (t - c) a X m f (not (some? f)) i r ∙ sym (ap (λ (b : Bool). cond b too_large too_small) h))
            far_cut.0
          where
            more : (n : ℕ) → n + 0 ≡ n
            more n = omega arith

        pub told_far_unlike : q.same ≡ false → Told false (row_far false (suc m) f)
        told_far_unlike h =
            let n = unlike_far (sym (pair_same x y e) ∙ h) in
            told false (row_far false (suc m) f) X false
            (sum_unlike e h ∙ ap (λ (z : ℕ). X - z) none_read ∙ less X)
            (refused_unlike_far q k w p X h far_is)
            (far_decide ∙ n.0 ∙ far_unlike_verdict w p (t - c) X m f ∙ sym (or-false (settled_by w p X (row_far false (suc m) f))))
            (far_answer_lem ∙ n.1)
            (λ i r. absurd (true≢false (sym r)))
            far_cut.0
          where
            less : (n : ℕ) → n - 0 ≡ n
            less n = omega arith

      -- the hole
      pub in_hole : u ≡ 0 → InHole x y k
      in_hole h = record { regular = e; unseen = rw top_is far; read = rw top_is (unread_first ∙ h) }

      pub hole_decide : u ≡ 0 → decide_at o p x y k ≡ hole_by_size o p a b (mantissa x) (gap - x.precision)
      hole_decide h = hole_by_size_lem o p x y k K (in_hole h) ∙ ap (hole_by_size o p a b (mantissa x)) (unfold last_weight in turn t x.precision y.exponent)
        where
          turn : (t m e : ℕ) → t - m - e ≡ t - e - m
          turn t m e = omega arith

  -- ---- one operand alone

  module _ (z : y.is_zero ≡ true) where
    pub alone_left : left_over t k y ≡ 0
    unfolding left_over
    alone_left = rw z

    pub alone_read : read_part t k s y ≡ 0
    alone_read = read_nil t k s y z

    pub alone_seen : reaches? t k y ≡ true
    unfolding reaches?
    alone_seen = rw z

    pub row_one : row_of q k ≡ row_seen true u 0
    row_one = row_alone q k (alone_second x y z) (alone_gap x y z) ∙ (let i = pair_first x y in let j = alone_same x y z in cc)

    pub all_decided_one : u ≡ 0 → decide_at o p x y k ≡ true
    all_decided_one f = seen_decide 0 alone_seen alone_left ∙ ap (λ (m : ℕ). seen_pair o p (t - c - s + s) a b (read_part t k s x) m (read_part t k s y) 0) f ∙ seen_all o p (t - c - s + s) a b (read_part t k s x) (read_part t k s y)

    -- the range tests agree, since the operand is in range
    one_range : (m : ℕ) → unread t k x ≡ suc m → unlike_signs w p (t - c - s + s) (read_part t k s x) (suc m) 0 0 ≡ same_signs w p (t - c - s + s) (read_part t k s x) (suc m) 0 0
    unfolding unlike_signs same_signs unlike_row same_row
    one_range m e =
        let span = same_one j R m xl xh 0 0 0 first second in
        let sides = sides_same_one s j R (suc m) xl xh 0 0 0 0 first second refl (le_trans pos (more R)) in
        ap (λ (n : ℕ). or_small w p (j + s) n false 0 true (suc m)) (level R)
        ∙ sym (only_small w p s P j (R + 0) false false 0 true (suc m) (xl + 0) (xh + 0) span sides (le_trans (le_of_eq (ap (λ (n : ℕ). size n + (j + s)) (twice R))) (held.to pos)))
        ∙ only_large w p s P j (R + 0) false false 0 true (suc m) (xl + 0) (xh + 0) span sides (le_trans (held.from pos) (le_of_eq (ap (λ (n : ℕ). size n + (j + s)) (sym (twice R)))))
      where
        j : ℕ
        j = t - c - s

        R : ℕ
        R = read_part t k s x

        xl : ℕ
        xl = amount s (end t k x false)

        xh : ℕ
        xh = amount s (end t k x true)

        level : (n : ℕ) → n - 0 ≡ n + 0
        level n = omega arith

        twice : (n : ℕ) → n + 0 + 0 ≡ n
        twice n = omega arith

        more : (n : ℕ) → n ≤ n + 0
        more n = omega arith

        is : R ≡ mantissa x / 2 ^ unread t k x * 2 ^ (unread t k x + (last_weight x - s) - (t - 64 * k - s))
        is = read_is t k s x d.regular

        first : Seen j R (suc m) xl xh
        first = subst (λ (n : ℕ). Seen j R n xl xh) e (subst (λ (n : ℕ). Seen j n (unread t k x) xl xh) (sym is) (seen_is t k s x d.first d.regular (le_refl t) first_weight flat))

        held : Held s j R
        held = subst (Held s j) (sym is) (seen_held t k s x d.first d.regular (le_refl t) first_weight flat)

        pos : 0 < R
        pos = subst (λ (n : ℕ). 0 < n) (sym is) (seen_pos t k s x d.first d.regular (le_refl t) first_weight flat)

        second : Seen j 0 0 0 0
        second = record { l = j; cut = omega arith; low = sym (zero-mul (2 ^ j)); high = ap (λ (n : ℕ). n + 2 ^ j) (sym (zero-mul (2 ^ j))) }

    pub told_one : 0 < u → Told false (row_seen true u 0)
    told_one h =
        let cut = first_open h in
        let i = first_read cut in let l = unit_is cut.1 in
        let n = one_pair (Bool.beq a b) refl in
        let tests : same_signs w p (t - c - s + s) (read_part t k s x) u 0 0 ≡ same_signs w p (t - c) X u 0 0 = cc in
        let answers : same_answer w p (t - c - s + s) a (read_part t k s x) u 0 0 ≡ same_answer w p (t - c) a X u 0 0 = cc in
        told false (row_seen true u 0) (X + 0) (large? w p (t - c) (X + 0) false false) (sum_alone z ∙ sym (more X))
        (refused_same_seen q k w p (X + 0) (alone_same x y z) (no_second q k (alone_second x y z)) ∙ ap (λ (m : ℕ). large? w p (m - c) (X + 0) false false) (pair_top x y))
        (n.0 ∙ tests ∙ same_verdict w p (t - c) X 0 u 0)
        (n.1 ∙ answers ∙ same_answer_lem w p (t - c) a X 0 u 0)
        (λ m r. same_refused w p (t - c) a (X + 0) u 0 (le_trans h (le_of_eq (sym (more u)))) m r ∙ sym (ap (λ (b : Bool). cond b too_large too_small) (alone_same x y z)))
        cut.0
      where
        more : (n : ℕ) → n + 0 ≡ n
        more n = omega arith

        E : ℕ
        E = t - c - s + s

        R : ℕ
        R = read_part t k s x

        suc_of : (n : ℕ) → 0 < n → (m : ℕ) × (n ≡ suc m)
        suc_of zero h = absurd (omega arith)
        suc_of (suc n) h = (n, refl)

        some : 0 < R
        some = subst (λ (n : ℕ). 0 < n) (sym (read_is t k s x d.regular)) (seen_pos t k s x d.first d.regular (le_refl t) first_weight flat)

        range : unlike_signs w p E R u 0 0 ≡ same_signs w p E R u 0 0
        range = let m = suc_of u h in
            subst (λ (n : ℕ). unlike_signs w p E R n 0 0 ≡ same_signs w p E R n 0 0) (sym m.1) (one_range m.0 (sym (left_is t k x d.regular) ∙ left_first ∙ m.1))

        level : unlike_answer w p E a R u 0 0 ≡ same_answer w p E a R u 0 0
        level =
            unlike_answer_lem w p E a R 0 u 0 ∙ ap (answer_by w p E a (R - 0) false) (alone_row u) ∙ ap (λ (n : ℕ). answer_by w p E a n false (row_seen true u 0)) (turn R) ∙ sym (same_answer_lem w p E a R 0 u 0)
          where
            turn : (n : ℕ) → n - 0 ≡ n + 0
            turn n = omega arith

        one_pair : (v : Bool) → Bool.beq a b ≡ v → (decide_at o p x y k ≡ same_signs w p E R u 0 0) × (answer_at o p x y k ≡ same_answer w p E a R u 0 0)
        one_pair true e =
            let n = same_pair E R u 0 0 e in let i = alone_read in
            (seen_decide 0 alone_seen alone_left ∙ ap (λ (m : ℕ). seen_pair o p E a b R u m 0) alone_read ∙ n.0, seen_answer_lem 0 alone_seen alone_left ∙ ap (λ (m : ℕ). seen_answer neg o p E a b R u m 0) alone_read ∙ n.1)
        one_pair false e =
            let n = unlike_pair_lem E R u 0 0 e some in
            (seen_decide 0 alone_seen alone_left ∙ ap (λ (m : ℕ). seen_pair o p E a b R u m 0) alone_read ∙ n.0 ∙ range, seen_answer_lem 0 alone_seen alone_left ∙ ap (λ (m : ℕ). seen_answer neg o p E a b R u m 0) alone_read ∙ n.1 ∙ level)
