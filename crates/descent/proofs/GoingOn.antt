-- A walk goes on: what a column more makes of the sum of what is read, and why the columns are few. Assumes nothing.
use mathlib.Core.Path.{◌≡◌, refl, sym, ap, ◌∙◌, subst}
use mathlib.Core.Logic.{inl, inr}
use mathlib.Core.Bool.{Bool, true, false, cond, true≢false}
use mathlib.Core.List.{List}
use Prim.Native.Nat.{ℕ, suc, ◌+◌, ◌-◌, ◌*◌, ◌^◌, ◌≤◌, ◌<◌}
use native.Mathlib.Nat.{le_trans}
use native.Mathlib.Numerals.{add-one}
use native.Mathlib.Omega.{arith}
use borrow.Author.Tests.{eq-eqb, ne_eqb}
use lib.Dec.{eqb}
use lib.Pow.{pow_pos, pow_mono}
use Rattle.columns.proofs.Reading.{read_lt}
use Rattle.numbers.specs.Limits.{most_precision}
use Rattle.numbers.specs.Operand.{Operand}
use Rattle.numbers.proofs.Digits.{precision_two}
use Rattle.rounding.specs.declared.Mode.{Mode}
use Rattle.rounding.proofs.Order.{le_or_lt}
use Rattle.depth.specs.Depth.{plus}
use Rattle.depth.specs.Bound.{bound, deepest}
use Rattle.depth.proofs.Bounds.{bound_most, bound_fixed, deepest_today}
use Rattle.depth.proofs.Least.{fixed_more}
use Rattle.decide.specs.Decide.{decide_at}
use Rattle.decide.proofs.Decision.{decides_fixed}
use Rattle.columns.specs.Column.{read_to, column_of}
use Rattle.walk.specs.Window.{Shows}
use Rattle.walk.specs.Tail.{Unmixed}
use Rattle.walk.specs.Append.{Summed, Differed}
use Rattle.walk.specs.declared.state.Window.{Window}
use Rattle.columns.proofs.Reading as walk
use Rattle.settle.specs.declared.rows.Pair.{Pair}
use Rattle.settle.specs.declared.rows.Way.{Way}
use Rattle.bridge.specs.Verdict.{pair_of, Ordered, Leads, read_sum}
use Rattle.bridge.proofs.Read.{read_lead}
use Rattle.bridge.proofs.Told.{pair_second, alone_second, unlike_regular}
use Rattle.bridge.proofs.Theorems.{leads_same, leads_later}
use Rattle.descent.specs.Course.{Held, Going, Reached}

-- ---- one column more of the sum

added : (A B a b : ℕ) → A * 2 ^ 64 + a + (B * 2 ^ 64 + b) ≡ (A + B) * 2 ^ 64 + a + b
added A B a b = omega arith

taken : (A B a b : ℕ) → a < 2 ^ 64 → b < 2 ^ 64 → B * 2 ^ 64 + b < A * 2 ^ 64 + a → (b ≤ (A - B) * 2 ^ 64 + a) × (A * 2 ^ 64 + a - (B * 2 ^ 64 + b) ≡ (A - B) * 2 ^ 64 + a - b)
taken A B a b h i l = (omega arith, omega arith)

-- what is read of the second operand, and its next column
unfoldable pub second_read : Operand → Operand → ℕ → ℕ
second_read x y k = cond y.is_zero 0 (read_to k (pair_of x y).gap y.limbs)

second_column : Operand → Operand → ℕ → ℕ
second_column x y k = cond (eqb (pair_of x y).second 0) 0 (column_of k (pair_of x y).gap y.limbs)

module _ (x y : Operand) (k : ℕ) (d : Ordered x y) where
  second_zero : y.is_zero ≡ true → second_column x y k ≡ 0
  unfolding second_column
  second_zero e = rw (eq-eqb (pair_of x y).second 0 (alone_second x y e))

  second_some : y.is_zero ≡ false → second_column x y k ≡ column_of k (pair_of x y).gap y.limbs
  unfolding second_column
  second_some e = rw (ne_eqb (pair_of x y).second 0 (λ f. omega (arith, pair_second x y e, precision_two y d.second)))

  second_more : second_read x y (suc k) ≡ second_read x y k * 2 ^ 64 + second_column x y k
  unfolding second_read
  second_more = go y.is_zero refl
    where
      go : (z : Bool) → y.is_zero ≡ z → cond z 0 (read_to (suc k) (pair_of x y).gap y.limbs) ≡ cond z 0 (read_to k (pair_of x y).gap y.limbs) * 2 ^ 64 + second_column x y k
      go true e = omega (arith, second_zero e)
      go false e = omega (arith, second_some e, walk.read_more (pair_of x y).gap y.limbs k)

  second_below : second_read x y (suc k) < 2 ^ (64 * suc k)
  unfolding second_read
  second_below = go y.is_zero
    where
      go : (z : Bool) → cond z 0 (read_to (suc k) (pair_of x y).gap y.limbs) < 2 ^ (64 * suc k)
      go true = pow_pos (64 * suc k)
      go false = read_lt (pair_of x y).gap y.limbs d.second.limb (suc k)

  pub sum_is : (j : ℕ) → (pair_of x y).same ≡ true → read_sum x y j ≡ read_to j 0 x.limbs + second_read x y j
  unfolding read_sum second_read
  sum_is j f = rw f

  pub difference_is : (j : ℕ) → (pair_of x y).same ≡ false → read_sum x y j ≡ read_to j 0 x.limbs - read_to j (pair_of x y).gap y.limbs
  unfolding read_sum
  difference_is j f = rw (f, unlike_regular x y f)

  sum_more : (pair_of x y).same ≡ true → read_sum x y (suc k) ≡ read_sum x y k * 2 ^ 64 + column_of k 0 x.limbs + second_column x y k
  sum_more f =
      let X = read_to k 0 x.limbs in
      let Y = second_read x y k in
      let a = column_of k 0 x.limbs in
      let b = second_column x y k in
      sum_is (suc k) f ∙ ap (λ (n : ℕ). n + second_read x y (suc k)) (walk.read_more 0 x.limbs k) ∙ ap (λ (n : ℕ). X * 2 ^ 64 + a + n) second_more ∙ added X Y a b
      ∙ ap (λ (n : ℕ). n * 2 ^ 64 + a + b) (sym (sum_is k f))

  pub sum_below : (pair_of x y).same ≡ true → read_sum x y (suc k) < 2 * 2 ^ (64 * suc k)
  sum_below f = omega (arith, sum_is (suc k) f, second_below, read_lt 0 x.limbs d.first.limb (suc k))

  sum_large : (pair_of x y).same ≡ true → 1 < read_sum x y (suc k)
  sum_large f =
      let l : 2 ^ 1 ≤ 2 ^ (64 * suc k - 1) = pow_mono {i = 1} {j = 64 * suc k - 1} (omega arith) in
      let m : 2 ^ 1 ≤ read_to (suc k) 0 x.limbs = le_trans l (read_lead x d.first d.regular (suc k) (omega arith)) in
      omega (arith, sum_is (suc k) f)

  module _ (f : (pair_of x y).same ≡ false) (lead : Leads x y (suc k)) where
    parts : (second_column x y k ≤ read_sum x y k * 2 ^ 64 + column_of k 0 x.limbs) × (read_sum x y (suc k) ≡ read_sum x y k * 2 ^ 64 + column_of k 0 x.limbs - second_column x y k)
    parts =
        let X = read_to k 0 x.limbs in
        let Y = read_to k (pair_of x y).gap y.limbs in
        let a = column_of k 0 x.limbs in
        let b = column_of k (pair_of x y).gap y.limbs in
        let X_more = walk.read_more 0 x.limbs k in
        let Y_more = walk.read_more (pair_of x y).gap y.limbs k in
        let same = second_some (unlike_regular x y f) in
        let D = difference_is k f in
        let lt : Y * 2 ^ 64 + b < X * 2 ^ 64 + a = rw (X_more, Y_more) at (lead f) in
        let t = taken X Y a b (walk.column_lt 0 x.limbs k) (walk.column_lt (pair_of x y).gap y.limbs k) lt in
        (rw (same, D) t.0, rw (same, D) (difference_is (suc k) f ∙ rw (X_more, Y_more) t.1))

-- ---- a step

module _ (o : Mode) (p : ℕ) (x y : Operand) (toward : Way) (pair : Pair) (first second : List ℕ) (held : Held o x y toward pair first second) (w r : Window) (before after : List ℕ) (k a b : ℕ)
    (going : Going o p x y w before k) (a_is : a ≡ column_of k 0 first) (b_is : b ≡ cond (eqb pair.second 0) 0 (column_of k pair.gap second)) where
  first_column : a ≡ column_of k 0 x.limbs
  first_column = a_is ∙ ap (column_of k 0) held.first_is

  second_column_lem : b ≡ second_column x y k
  unfolding second_column
  second_column_lem =
      b_is ∙ ap (λ (s : Pair). cond (eqb s.second 0) 0 (column_of k s.gap second)) held.pair_is ∙ go y.is_zero refl
    where
      go : (z : Bool) → y.is_zero ≡ z → cond (eqb (pair_of x y).second 0) 0 (column_of k (pair_of x y).gap second) ≡ second_column x y k
      go true e = rw (alone_second x y e)
      go false e = ap (λ (l : List ℕ). cond (eqb (pair_of x y).second 0) 0 (column_of k (pair_of x y).gap l)) (held.second_is e)

  pub step_sum : pair.same ≡ true → Summed w a b before r after → Reached x y r after (k + 1)
  step_sum f s =
      rw (add-one k)
      (let q : (pair_of x y).same ≡ true = sym (ap (λ (s : Pair). s.same) held.pair_is) ∙ f in
      let D = read_sum x y k in
      let next : D * 2 ^ 64 + a + b ≡ read_sum x y (suc k) = rw (first_column, second_column_lem) (sym (sum_more x y k going.ordered q)) in
      record {
        ordered = going.ordered;
        leads = leads_same x y (suc k) q;
        some = omega arith;
        near = going.near;
        sum = λ e. s.same_skip ∙ going.sum e;
        shows = subst (λ (n : ℕ). Shows r after (suc k) n) next
            (s.shows k k D going.shows going.unmixed (omega (arith, going.sum q)) (rw next (sum_below x y k going.ordered q)) (λ e. rw next (sum_large x y k going.ordered q)));
      })

  pub step_difference : pair.same ≡ false → Differed w a b before r after → Reached x y r after (k + 1)
  step_difference f s =
      rw (add-one k)
      (let q : (pair_of x y).same ≡ false = sym (ap (λ (s : Pair). s.same) held.pair_is) ∙ f in
      let D = read_sum x y k in
      let t = parts x y k going.ordered q going.leads in
      let next : D * 2 ^ 64 + a - b ≡ read_sum x y (suc k) = rw (first_column, second_column_lem) (sym t.1) in
      record {
        ordered = going.ordered;
        leads = going.leads;
        some = omega arith;
        near = going.near;
        sum = λ e. absurd (true≢false (sym e ∙ q));
        shows = subst (λ (n : ℕ). Shows r after (suc k) n) next (s.shows k D going.shows going.unmixed (rw (first_column, second_column_lem) t.0));
      })

-- ---- the columns that fix nothing are few

module _ (o : Mode) (p : ℕ) (P : 0 < p) (M : p ≤ most_precision) (x y : Operand) (k : ℕ) (d : Ordered x y) where
  pub deep_fixed : 1 ≤ k → bound p x y ≤ k → decide_at o p x y k ≡ true
  deep_fixed K h =
      (decides_fixed o p P x y d.first d.second k K).complete
      (fixed_more plus o p x y (bound p x y) k h (bound_fixed p x y d.first d.second o P))

  pub open_near : (1 ≤ k → decide_at o p x y k ≡ false) → k < deepest
  open_near e = elim (le_or_lt deepest k) [
    | inl h ↦
        let K : 1 ≤ k = omega (arith, deepest_today) in
        absurd (true≢false (sym (deep_fixed K (le_trans (bound_most p x y d.first d.second M) h)) ∙ e K))
    | inr h ↦ h
  ]

  pub going_on : (w : Window) (target : List ℕ) → Reached x y w target k → decide_at o p x y k ≡ false → Unmixed w.tail → Going o p x y w target k
  going_on w target r e u =
      record {
        ordered = d;
        leads = subst (λ (n : ℕ). Leads x y n) (add-one k) (leads_later x y k 1 r.leads);
        near = open_near (λ K. e);
        undecided = λ K. e;
        sum = r.sum;
        unmixed = u;
        shows = r.shows;
      }
