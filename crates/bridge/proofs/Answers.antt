-- Where the decision holds, the sum of the read parts gives the answer.
use mathlib.Core.Path.{◌≡◌, refl, sym, ap, ◌∙◌, subst}
use mathlib.Core.Logic.{inl, inr}
use mathlib.Core.Bool.{Bool, true, false, cond, ◌||◌, beq, true≢false}
use Prim.Native.Nat.{ℕ, zero, suc, ◌+◌, ◌-◌, ◌*◌, ◌^◌, ◌≤◌, ◌<◌}
use native.Mathlib.Nat.{le_refl, le_trans, le_of_eq, lt_of_lt_of_le, mul-le-mul_right, add-mul, zero-mul}
use native.Mathlib.Omega.{arith}
use borrow.Author.Tests.{le-ltb}
use lib.Pow.{pow_pos}
use Rattle.decide.proofs.Answered.{settled_enough}
use Rattle.limb.specs.Carry.{bit}
use Rattle.numbers.specs.Operand.{Operand}
use Rattle.rounding.specs.Mode.{Way, way, near, under, over}
use Rattle.rounding.specs.declared.Mode.{Mode}
use Rattle.rounding.specs.Answer.{zero_of, too_large, too_small, rounded}
use Rattle.rounding.specs.Sum.{scale, zero_sign, add}
use Rattle.rounding.proofs.Order.{le_or_lt, mul_one_one, size_mono, sub_mul}
use Rattle.rounding.proofs.Scale.{rounded_shift}
use Rattle.decide.specs.Class.{enough, settled}
use Rattle.decide.specs.Decide.{read_part, decide_at}
use Rattle.decide.specs.Answer.{decided_answer, same_answer, unlike_answer, unlike_pair_answer, seen_answer, answer_at}
use Rattle.decide.proofs.Lean.{Part}
use Rattle.decide.proofs.Settled.{Alike, Span, Enough, settled_if}
use Rattle.decide.proofs.Decision.{decides_fixed, answer_read}
use Rattle.columns.specs.Column.{read_to}
use Rattle.settle.specs.Rows.{row_of}
use Rattle.settle.specs.declared.rows.Pair.{Pair}
use Rattle.settle.specs.declared.rows.Row.{Row}
use Rattle.settle.specs.declared.rows.Row.TheVariants.{Exact, Plus, Minus, Hole}
use Rattle.bridge.specs.Verdict.{pair_of, Ordered, Leads, read_sum, settled_by, refused_by, more_of, test_by, exact?, inner?}
use Rattle.bridge.proofs.Read.{read_scaled, read_some}
use Rattle.bridge.proofs.Rows.{answer_by, row_seen}
use Rattle.bridge.proofs.Told.{Told, pair_gap, pair_same, none, flat, first_weight, second_weight, seen_answer_lem, seen, same_pair, unlike_pair_lem, left_second, alone_left, alone_read, alone_seen, all_decided, all_decided_one, sum_alone, sum_same, sum_unlike, row_near, none_read, unlike_regular}
use Rattle.bridge.proofs.Decision.{View, view}
use Rattle.bridge.proofs.Refine.{half_answer}

-- ---- what a settled row answers

alike_rounded : (w : Way) (p s : ℕ) (g : Bool) (lo hi : ℕ) → Alike w p lo hi → rounded w p s g lo ≡ rounded w p s g hi
unfolding rounded
alike_rounded w p s g lo hi e = let a = e.number in let b = e.tern in cc

-- what a difference may come to, whose last column is still to be read
minus_span : (D : ℕ) → 0 < D → (most : Bool) → Span 1 (D - 1) true 1 most (2 * (D - 1) + bit true) (2 * D + bit most)
unfolding bit
minus_span D pos most = record {
  a = bit true;
  b = bit most;
  least = omega arith;
  most = greatest (bit most);
  part_least = (omega arith, omega arith);
  part_most = last most;
  carry = le_refl 1;
  apart = omega arith;
  wide = inr (inl refl);
}
  where
    last : (most : Bool) → Part most (2 ^ 1) (bit most)
    last true = (omega arith, omega arith)
    last false = refl

    greatest : (b : ℕ) → 2 * D + b ≡ (D - 1 + 1) * 2 ^ 1 + b
    greatest b = omega arith

module _ (w : Way) (p : ℕ) (P : 0 < p) (e : ℕ) (E : 1 ≤ e) (g : Bool) (D : ℕ) where
  settled_plus : (least half : Bool) (i : ℕ) (most : Bool) → settled w p D least i most ≡ true → decided_answer w p e g D least half i most ≡ rounded w p (e - 1) g (2 * D + bit least)
  unfolding decided_answer
  settled_plus least half i most h = rw h (sym (half_answer w p P g e D least E (settled_enough w p D least i most h)))

  settled_minus : (most half : Bool) → 0 < D → settled w p (D - 1) true 1 most ≡ true → decided_answer w p e g (D - 1) true half 1 most ≡ rounded w p (e - 1) g (2 * D + bit most)
  unfolding decided_answer
  settled_minus most half pos h =
      rw h (sym (half_answer w p P g e (D - 1) true E (settled_enough w p (D - 1) true 1 most h))
      ∙ alike_rounded w p (e - 1) g _ _ (settled_if w p P 1 (D - 1) true 1 most (2 * (D - 1) + bit true) (2 * D + bit most) (minus_span D pos most) h))

  pub settled_row : (half : Bool) (row : Row) → inner? row ≡ true → 0 < D → settled_by w p D row ≡ true → answer_by w p e g D half row ≡ rounded w p (e - 1) g (2 * D + bit (more_of row))
  unfolding settled_by answer_by more_of inner?
  settled_row half Exact i pos h = absurd (true≢false (sym i))
  settled_row half (Plus least next most) i pos h = settled_plus least half (bit next) most h
  settled_row half (Minus most) i pos h = settled_minus most false pos h
  settled_row half Hole i pos h = absurd (true≢false (sym i))

-- a settled row has enough digits
more_enough : (w : Way) (p m n : ℕ) → m ≤ n → Enough w p m → Enough w p n
more_enough near p m n h e = lt_of_lt_of_le e (size_mono m n h)
more_enough under p m n h e = le_trans e (size_mono m n h)
more_enough over p m n h e = le_trans e (size_mono m n h)

pub settled_digits : (w : Way) (p D : ℕ) (row : Row) → inner? row ≡ true → settled_by w p D row ≡ true → Enough w p D
unfolding settled_by inner?
settled_digits w p D Exact i h = absurd (true≢false (sym i))
settled_digits w p D (Plus least next most) i h = settled_enough w p D least (bit next) most h
settled_digits w p D (Minus most) i h = more_enough w p (D - 1) D (less D) (settled_enough w p (D - 1) true 1 most h)
  where
    less : (n : ℕ) → n - 1 ≤ n
    less n = omega arith
settled_digits w p D Hole i h = absurd (true≢false (sym i))

-- ---- what is read is all

same_all : (w : Way) (p e : ℕ) (g : Bool) (m n : ℕ) → same_answer w p e g m 0 n 0 ≡ rounded w p e g (m + n)
unfolding same_answer
same_all w p e g m n = refl

unlike_all : (w : Way) (p e : ℕ) (g : Bool) (m n : ℕ) → unlike_answer w p e g m 0 n 0 ≡ rounded w p e g (m - n)
unfolding unlike_answer
unlike_all w p e g m n = refl

pub none_left : (b : Bool) (u v : ℕ) → row_seen b u v ≡ Exact → (u ≡ 0) × (v ≡ 0)
unfolding exact? row_seen
none_left b u v e = go b u v (ap exact? e)
  where
    go : (b : Bool) (u v : ℕ) → exact? (row_seen b u v) ≡ true → (u ≡ 0) × (v ≡ 0)
    go b zero zero i = (refl, refl)
    go true (suc u) zero i = absurd (true≢false (sym i))
    go true zero (suc v) i = absurd (true≢false (sym i))
    go true (suc u) (suc v) i = absurd (true≢false (sym i))
    go false (suc u) zero i = absurd (true≢false (sym i))
    go false zero (suc v) i = absurd (true≢false (sym i))
    go false (suc u) (suc v) i = absurd (true≢false (sym i))

-- units that are 2 ^ j times smaller keep the order

less_shifted : (m n v : ℕ) → m * v < n * v → m < n
less_shifted m n v h = elim (le_or_lt n m) [ inl l ↦ absurd (clash (mul-le-mul_right v l) h) | inr l ↦ l ]
  where
    clash : {i j : ℕ} → j ≤ i → i < j → ⊥
    clash a b = omega arith

module _ (o : Mode) (p : ℕ) (P : 0 < p) (x y : Operand) (k : ℕ) (d : Ordered x y) (K : 1 ≤ k) where
  abbrev a : Bool
  a = x.negative

  abbrev b : Bool
  b = y.negative

  abbrev t : ℕ
  t = x.exponent

  abbrev c : ℕ
  c = 64 * k

  abbrev s : ℕ
  s = scale x y

  abbrev q : Pair
  q = pair_of x y

  abbrev w : Way
  w = way o a

  abbrev D : ℕ
  D = read_sum x y k

  abbrev X : ℕ
  X = read_to k 0 x.limbs

  pub decided_sum : decide_at o p x y k ≡ true → add o p x y ≡ answer_at o p x y k
  decided_sum e = answer_read o p P x y d.first d.second k K (rw d.regular) ((decides_fixed o p P x y d.first d.second k K).sound e)

  pub sum_pos : Leads x y k → 0 < D
  sum_pos lead = go y.is_zero q.same refl refl
    where
      X_pos : 0 < X
      X_pos = read_some x d.first d.regular k K

      more : (m n : ℕ) → 0 < m → 0 < m + n
      more m n h = omega arith

      rest : (m n : ℕ) → n < m → 0 < m - n
      rest m n h = omega arith

      go : (z f : Bool) → y.is_zero ≡ z → q.same ≡ f → 0 < D
      go true f e i = rw (sum_alone o p P x y k d K e) X_pos
      go false true e i = rw (sum_same o p P x y k d K e i) (more X _ X_pos)
      go false false e i = rw (sum_unlike o p P x y k d K e i) (rest X _ (rw (pair_gap x y e) at (lead i)))

  -- ---- some digit is unread

  module _ (lead : Leads x y k) (row : Row) (is : row_of q k ≡ row) (inner : inner? row ≡ true) where
    told_row : (half : Bool) × Told o p P x y k d K half row
    told_row = go row inner (subst (View o p P x y k d K) is (view o p P x y k d K lead))
      where
        go : (row : Row) → inner? row ≡ true → View o p P x y k d K row → (half : Bool) × Told o p P x y k d K half row
        go Exact i v = absurd (true≢false (sym (unfold inner? in i)))
        go (Plus least next most) i v = v
        go (Minus most) i v = v
        go Hole i v = absurd (true≢false (sym (unfold inner? in i)))

    pub tests_are : decide_at o p x y k ≡ (settled_by w p D row || refused_by w p q k D)
    tests_are = told_row.1.tests ∙ (unfold test_by in refl)

    pub room : 1 ≤ t - c
    room = told_row.1.room

    pub settled_sum : settled_by w p D row ≡ true → add o p x y ≡ rounded w p (t - c - 1) a (2 * D + bit (more_of row))
    settled_sum h = decided_sum (tests_are ∙ rw h) ∙ told_row.1.answer ∙ settled_row w p P (t - c) room a D told_row.0 row inner (sum_pos lead) h

    pub refused_sum : settled_by w p D row ≡ false → refused_by w p q k D ≡ true → add o p x y ≡ cond q.same too_large too_small
    refused_sum h l = decided_sum (tests_are ∙ rw (h, l)) ∙ told_row.1.refused h l

  -- ---- all is read

  module _ (room_all : c ≤ t) where
    abbrev j : ℕ
    j = s - (t - c)

    abbrev E : ℕ
    E = t - c - s + s

    abbrev R : ℕ
    R = read_part t k s x

    unit_is : j + (t - c) ≡ E
    unit_is = go (t - c)
      where
        go : (e : ℕ) → s - e + e ≡ e - s + s
        go e = omega arith

    first_is : X ≡ R * 2 ^ j
    first_is = ap (λ (n : ℕ). read_to k n x.limbs) (sym (none o p P x y k d K t)) ∙ read_scaled x d.first d.regular t k s (le_refl t) (first_weight o p P x y k d K) (flat o p P x y k d K) room_all

    R_pos : 0 < R
    R_pos = go (subst (λ (n : ℕ). 0 < n) first_is (read_some x d.first d.regular k K))
      where
        go : 0 < R * 2 ^ j → 0 < R
        go h = less_shifted 0 R (2 ^ j) (le_trans (le_of_eq (ap suc (zero-mul (2 ^ j)))) h)

    -- counted in the other unit
    shifted : (m n : ℕ) → 0 < m → n ≡ m * 2 ^ j → rounded w p E a m ≡ rounded w p (t - c) a n
    shifted m n h e = ap (λ (z : ℕ). rounded w p z a m) (sym unit_is) ∙ sym (rounded_shift w p (t - c) a m j P h) ∙ ap (rounded w p (t - c) a) (sym e)

    one_exact : y.is_zero ≡ true → x.precision - c ≡ 0 → add o p x y ≡ rounded w p (t - c) a D
    one_exact z u =
        decided_sum (all_decided_one o p P x y k d K z u)
        ∙ seen_answer_lem o p P x y k d K 0 (alone_seen o p P x y k d K z) (alone_left o p P x y k d K z)
        ∙ ap (λ (n : ℕ). seen_answer (zero_sign o a b) o p E a b R n (read_part t k s y) 0) u
        ∙ ap (λ (n : ℕ). seen_answer (zero_sign o a b) o p E a b R 0 n 0) (alone_read o p P x y k d K z)
        ∙ go (beq a b) refl
      where
        flat_sum : (n : ℕ) → n + 0 ≡ n
        flat_sum n = omega arith

        flat_rest : (n : ℕ) → n - 0 ≡ n
        flat_rest n = omega arith

        D_is : D ≡ R * 2 ^ j
        D_is = sum_alone o p P x y k d K z ∙ first_is

        go : (v : Bool) → beq a b ≡ v → seen_answer (zero_sign o a b) o p E a b R 0 0 0 ≡ rounded w p (t - c) a D
        go true e = (same_pair o p P x y k d K E R 0 0 0 e).1 ∙ same_all w p E a R 0 ∙ ap (rounded w p E a) (flat_sum R) ∙ shifted R D R_pos D_is
        go false e = (unlike_pair_lem o p P x y k d K E R 0 0 0 e R_pos).1 ∙ unlike_all w p E a R 0 ∙ ap (rounded w p E a) (flat_rest R) ∙ shifted R D R_pos D_is

    module _ (e : y.is_zero ≡ false) (reach : t - y.exponent < c) (u : x.precision - c ≡ 0) (v : t - y.exponent + y.precision - c ≡ 0) where
      abbrev Y : ℕ
      Y = read_to k (t - y.exponent) y.limbs

      abbrev S : ℕ
      S = read_part t k s y

      second_is : Y ≡ S * 2 ^ j
      second_is = read_scaled y d.second e t k s (d.order e) (second_weight o p P x y k d K e) reach room_all

      both_answer : add o p x y ≡ seen_answer (zero_sign o a b) o p E a b R 0 S 0
      both_answer =
          decided_sum (all_decided o p P x y k d K e reach u v)
          ∙ seen_answer_lem o p P x y k d K 0 (seen o p P x y k d K e reach) (left_second o p P x y k d K e reach ∙ v)
          ∙ ap (λ (n : ℕ). seen_answer (zero_sign o a b) o p E a b R n S 0) u

      both_exact : Leads x y k → add o p x y ≡ rounded w p (t - c) a D
      both_exact lead = both_answer ∙ go q.same refl
        where
          more : (m n : ℕ) → 0 < m → 0 < m + n
          more m n h = omega arith

          rest : (m n : ℕ) → n < m → 0 < m - n
          rest m n h = omega arith

          go : (f : Bool) → q.same ≡ f → seen_answer (zero_sign o a b) o p E a b R 0 S 0 ≡ rounded w p (t - c) a D
          go true f =
              (same_pair o p P x y k d K E R 0 S 0 (sym (pair_same x y e) ∙ f)).1 ∙ same_all w p E a R S
              ∙ shifted (R + S) D (more R S R_pos) (sum_same o p P x y k d K e f ∙ (let m = first_is in let n = second_is in cc (add-mul R S (2 ^ j))))
          go false f =
              let lt : S < R = less_shifted S R (2 ^ j) (rw (← first_is, ← second_is) (rw (pair_gap x y e) at (lead f))) in
              (unlike_pair_lem o p P x y k d K E R 0 S 0 (sym (pair_same x y e) ∙ f) lt).1 ∙ unlike_all w p E a R S
              ∙ shifted (R - S) D (rest R S lt) (sum_unlike o p P x y k d K e f ∙ (let m = first_is in let n = second_is in cc (sub_mul R S (2 ^ j))))

      both_cancel : q.same ≡ false → Y ≡ X → add o p x y ≡ zero_of (zero_sign o a b)
      both_cancel f h = both_answer ∙ level (mul_one_one S R (2 ^ j) (pow_pos j) (sym second_is ∙ h ∙ first_is))
        where
          level : S ≡ R → seen_answer (zero_sign o a b) o p E a b R 0 S 0 ≡ zero_of (zero_sign o a b)
          level i = unfold seen_answer unlike_pair_answer in rw (sym (pair_same x y e) ∙ f, le-ltb S R (le_of_eq (sym i)), le-ltb R S (le_of_eq i))

    pub exact_sum : Leads x y k → row_of q k ≡ Exact → add o p x y ≡ rounded w p (t - c) a D
    exact_sum lead is = go (subst (View o p P x y k d K) is (view o p P x y k d K lead))
      where
        go : View o p P x y k d K Exact → add o p x y ≡ rounded w p (t - c) a D
        go (inl z) = one_exact z.0 z.1
        go (inr z) = both_exact z.0 z.1 z.2 z.3 lead

    pub cancelled_sum : q.same ≡ false → read_to k q.gap y.limbs ≡ X → row_of q k ≡ Exact → add o p x y ≡ zero_of (zero_sign o a b)
    cancelled_sum f h is = go (unlike_regular x y f)
      where
        clash : {m n : ℕ} → m ≡ 0 → m ≡ n → 0 < n → ⊥
        clash h i l = omega arith

        go : y.is_zero ≡ false → add o p x y ≡ zero_of (zero_sign o a b)
        go e =
            let same : read_to k (t - y.exponent) y.limbs ≡ X = rw (pair_gap x y e) at h in
            elim (le_or_lt c (t - y.exponent)) [
              | inl far ↦ absurd (clash (none_read o p P x y k d K e far) same (read_some x d.first d.regular k K))
              | inr reach ↦ let n = none_left q.same (x.precision - c) (t - y.exponent + y.precision - c) (sym (row_near o p P x y k d K e reach) ∙ is) in both_cancel e reach n.0 n.1 f same
            ]
