-- Columns passed over and one more: those passed go on as the last digit of the first does, so that a tail of zeros or of ones shows them, and the next column is added below it or taken off. Assumes nothing.
use mathlib.Core.Path.{◌≡◌, refl, sym, ap, ◌∙◌, subst}
use mathlib.Core.Logic.{inl, inr}
use mathlib.Core.Bool.{Bool, true, false, not, cond, ◌&&◌, true≢false}
use mathlib.Core.List.{List}
use Prim.Native.Nat.{ℕ, zero, suc, ◌+◌, ◌-◌, ◌*◌, ◌%◌, ◌^◌, ◌≤◌, ◌<◌}
use native.Mathlib.Omega.{arith}
use borrow.Author.Tests.{eqb-true, eqb-false}
use lib.Dec.{eqb, leb, ltb}
use lib.Ieee.{size}
use lib.Pow.{pow_pos}
use Rattle.limb.specs.Value.{Below}
use Rattle.limb.proofs.Tests.{true_false}
use Rattle.numbers.specs.Operand.{Operand}
use Rattle.rounding.proofs.Order.{le_or_lt}
use Rattle.columns.specs.Column.{read_to, column_of}
use Rattle.columns.proofs.Reading.{read_more, read_lt, column_lt}
use Rattle.walk.specs.declared.state.Tail.{Tail}
use Rattle.walk.specs.declared.state.Tail.TheVariants.{Empty, Zeros, Ones}
use Rattle.walk.specs.Window.{TailIs}
use Rattle.walk.specs.Tail.{Unmixed}
use Rattle.depth.specs.Bound.{deepest}
use Rattle.depth.proofs.Bounds.{deepest_today}
use Rattle.settle.specs.Rows.{row_of, Modest}
use Rattle.settle.proofs.Table.{pair_exact, pair_far, pair_seen}
use Rattle.settle.specs.declared.rows.Pair.{Pair}
use Rattle.settle.specs.declared.rows.Row.TheVariants.{Plus, Minus, Hole}
use Rattle.bridge.specs.Verdict.{read_sum, exact?}
use Rattle.descent.proofs.JudgingRows.{pair_modest}
use Rattle.front.specs.declared.showing.Front.{Front}
use Rattle.front.specs.Front.{first_of, Kept, ShowsFront, Stepped}
use Rattle.front.specs.Passing.{NotPast, PassedBelow}
use Rattle.wide.specs.Filling.{Holding, Offered}
use Rattle.wide.proofs.GuardBelow.{read_held, leads_held}
use Rattle.deep.specs.Deep.{Inner}
use Rattle.deep.specs.Reading.{KeptTail, Ends, ReadOn}
use Rattle.deep.proofs.Opening.{inner_near}

-- ---- the tail of columns that go on as the last digit of the first

pub kept_empty : (odd : Bool) (columns : ℕ) → columns ≡ 1 → KeptTail odd columns Empty
kept_empty odd columns e = rw e (record { zeros = λ f. (refl, refl); ones = λ f s h. (refl, omega arith); unmixed = λ m. true≢false cc })

module _ (odd : Bool) (columns : ℕ) (some : 1 ≤ columns) (more : columns ≡ 1 → ⊥) where
  below : 0 < columns - 1
  below = omega arith

  pub kept_ones : odd ≡ true → KeptTail odd columns Ones
  kept_ones o = record { zeros = λ f. absurd (true_false o f); ones = λ f s h. (below, h); unmixed = λ m. true≢false cc }

  pub kept_zeros : odd ≡ false → KeptTail odd columns Zeros
  kept_zeros o = record { zeros = λ f. (below, refl); ones = λ f s h. absurd (true_false f o); unmixed = λ m. true≢false cc }

-- ---- a column that ends the reading, or does not

-- a row where something is unread is not exact
far_open : (hole same next most : Bool) → exact? (cond hole Hole (cond same (Plus true next true) (Minus most))) ≡ false
unfolding exact?
far_open true same next most = refl
far_open false true next most = refl
far_open false false next most = refl

seen_open : (same both second most first : Bool) → exact? (cond same (cond both (Plus false true most) (Plus false false true)) (cond second (Minus first) (Plus false false true))) ≡ false
unfolding exact?
seen_open true true second most first = refl
seen_open true false second most first = refl
seen_open false both true most first = refl
seen_open false both false most first = refl

module _ (p : ℕ) (pair : Pair) (front : Front) (k : ℕ) (some : 0 < pair.second) (long : p < size (first_of front)) where
  abbrev c : ℕ
  c = 64 * k

  abbrev all_read : Bool
  all_read = leb pair.first c && leb (pair.gap + pair.second) c

  there : pair.second ≡ 0 → ⊥
  there z = omega arith

  pub ends_read : all_read ≡ true → Ends p pair front k
  ends_read e = record { long = long; ends = inr (sym (pair_exact pair k there e)) }

  unread_row : all_read ≡ false → exact? (row_of pair k) ≡ false
  unread_row e = elim (le_or_lt c pair.gap) [
    | inl far ↦ ap exact? (sym (pair_far pair k there e far)) ∙ far_open (leb pair.first c) pair.same (ltb pair.gap pair.first) (not (eqb pair.first (c + 1) && eqb pair.gap c))
    | inr near ↦
        ap exact? (sym (pair_seen pair k there e near))
        ∙ seen_open pair.same (ltb c pair.first && ltb c (pair.gap + pair.second)) (ltb c (pair.gap + pair.second)) (not (eqb pair.first (c + 1) && eqb (pair.gap + pair.second) (c + 1))) (ltb c pair.first)
  ]

  pub goes_on_below : Unmixed front.tail → all_read ≡ false → Ends p pair front k → ⊥
  unfolding exact?
  goes_on_below unmixed e ends = elim ends.ends [
    | inl mixed ↦ unmixed mixed
    | inr exact ↦ true≢false (sym (ap exact? exact) ∙ unread_row e)
  ]

-- ---- over plain numbers

-- two numbers alike below X and Y differ as those do, moved up
alike_apart : (X Y W A C : ℕ) → Y < X → A + Y * W ≡ C + X * W → A - C ≡ (X - Y) * W
alike_apart X Y W A C l e =
    let d : ℕ = X - Y in
    let parted : X ≡ d + Y = omega arith in
    let moved : X * W ≡ d * W + Y * W = ap (λ (n : ℕ). n * W) parted ∙ omega arith in
    omega arith

-- a column more of a sum and of a difference
added : (A C a c B : ℕ) → A * B + a + (C * B + c) ≡ (A + C) * B + a + c
added A C a c B = omega arith

taken : (A C a c : ℕ) → a < 2 ^ 64 → c < 2 ^ 64 → C * 2 ^ 64 + c < A * 2 ^ 64 + a → (c ≤ (A - C) * 2 ^ 64 + a) × ((A - C) * 2 ^ 64 + a - c ≡ A * 2 ^ 64 + a - (C * 2 ^ 64 + c))
taken A C a c h i l = (omega arith, omega arith)

-- ---- whether the first column is odd

odd_ones : (f : Front) (n : ℕ) → first_of f ≡ n → f.limb % 2 ≡ 1 → n % 2 ≡ 1
unfolding first_of
odd_ones f n e o = omega arith

even_zeros : (f : Front) (n : ℕ) → first_of f ≡ n → (f.limb % 2 ≡ 1 → ⊥) → n % 2 ≡ 0
unfolding first_of
even_zeros f n e o = omega arith

-- ---- the operands held

module _ (x y : Operand) (pair : Pair) (first second : List ℕ) (h : Holding x y pair first second) where
  abbrev X : ℕ → ℕ
  X j = read_to j 0 first

  abbrev Y : ℕ → ℕ
  Y j = read_to j pair.gap second

  abbrev N : ℕ
  N = read_sum x y 1

  sum_at : (j : ℕ) → pair.same ≡ true → read_sum x y j ≡ X j + Y j
  sum_at j s = read_held x y pair first second h j ∙ rw s refl

  difference_at : (j : ℕ) → pair.same ≡ false → read_sum x y j ≡ X j - Y j
  difference_at j s = read_held x y pair first second h j ∙ rw s refl

  leads_at : (j : ℕ) → 1 ≤ j → pair.same ≡ false → Y j < X j
  leads_at j J = rw (h.pair_is, h.first_is, h.second_is) (leads_held x y pair first second h j J)

  first_lt : (j : ℕ) → X j < 2 ^ (64 * j)
  first_lt j = read_lt 0 first (subst (λ (l : List ℕ). Below (2 ^ 64) l) (sym h.first_is) h.course.ordered.first.limb) j

  second_lt : (j : ℕ) → Y j < 2 ^ (64 * j)
  second_lt j = read_lt pair.gap second (subst (λ (l : List ℕ). Below (2 ^ 64) l) (sym h.second_is) h.course.ordered.second.limb) j

  -- ---- the columns passed over

  module _ (t : ℕ) (odd : Bool) (passed : PassedBelow pair odd first second (suc t)) where
    unit : 2 ^ (64 * (suc t - 1)) ≡ 2 ^ (64 * t)
    unit = let e : suc t - 1 ≡ t = omega arith in rw e refl

    passed_even : odd ≡ false → N % 2 ≡ 0 → Kept N t (read_sum x y (suc t))
    passed_even o e = record { zeros = λ z. go pair.same refl; ones = λ z. absurd (omega arith) }
      where
        go : (s : Bool) → pair.same ≡ s → read_sum x y (suc t) ≡ N * 2 ^ (64 * t)
        go true s = sum_at (suc t) s ∙ passed.zeros s o ∙ rw (unit, sum_at 1 s) refl
        go false s = difference_at (suc t) s ∙ alike_apart (X 1) (Y 1) (2 ^ (64 * (suc t - 1))) (X (suc t)) (Y (suc t)) (leads_at 1 (omega arith) s) (passed.alike s o) ∙ rw (unit, difference_at 1 s) refl

    passed_odd : odd ≡ true → N % 2 ≡ 1 → Kept N t (read_sum x y (suc t))
    passed_odd o e = record { zeros = λ z. absurd (omega arith); ones = λ z. go pair.same refl }
      where
        go : (s : Bool) → pair.same ≡ s → suc (read_sum x y (suc t)) ≡ suc N * 2 ^ (64 * t)
        go true s = ap suc (sum_at (suc t) s) ∙ passed.ones s o ∙ rw (unit, sum_at 1 s) refl
        go false s = let none : t ≡ 0 = omega (arith, passed.none s o) in rw none (omega arith)

  -- ---- a tail shows them

  module _ (t : ℕ) (kept : Kept N t (read_sum x y (suc t))) (front : Front) (is : first_of front ≡ N) (odd : Bool) (tail : KeptTail odd (suc t) front.tail) where
    below_is : (rest : ℕ) → TailIs front.tail (suc t - 1) rest → TailIs front.tail t rest
    below_is rest = let e : suc t - 1 ≡ t = omega arith in subst (λ (n : ℕ). TailIs front.tail n rest) e

    shown_even : odd ≡ false → N % 2 ≡ 0 → ShowsFront front t (read_sum x y (suc t))
    shown_even o e = record { rest = 0; tail = below_is 0 (tail.zeros o); value = kept.zeros e ∙ rw is (omega arith) }

    shown_odd : odd ≡ true → N % 2 ≡ 1 → ShowsFront front t (read_sum x y (suc t))
    shown_odd o e =
        let W : ℕ = 2 ^ (64 * t) in
        let some : 0 < W = pow_pos (64 * t) in
        let same : suc t - 1 ≡ t = omega arith in
        record {
          rest = W - 1;
          tail = below_is (W - 1) (tail.ones o (W - 1) (rw same (omega arith)));
          value = ones_below (read_sum x y (suc t)) N W some (kept.ones e) ∙ rw is refl;
        }
      where
        ones_below : (d n m : ℕ) → 0 < m → suc d ≡ suc n * m → d ≡ n * m + (m - 1)
        ones_below d n m l f = omega arith

  -- ---- and the next column

  module _ (t a b : ℕ) (a_is : a ≡ column_of (suc t) 0 first) (b_is : b ≡ column_of (suc t) pair.gap second) (front next : Front) (shows : ShowsFront front t (read_sum x y (suc t))) (unmixed : Unmixed front.tail) (step : Stepped pair.same front a b next) where
    abbrev D : ℕ
    D = read_sum x y (suc t)

    first_more : X (suc (suc t)) ≡ X (suc t) * 2 ^ 64 + a
    first_more = rw a_is (read_more 0 first (suc t))

    second_more : Y (suc (suc t)) ≡ Y (suc t) * 2 ^ 64 + b
    second_more = rw b_is (read_more pair.gap second (suc t))

    sum_next : pair.same ≡ true → ShowsFront next (suc t) (read_sum x y (suc (suc t)))
    sum_next s =
        let more : D * 2 ^ 64 + a + b ≡ read_sum x y (suc (suc t)) =
        rw (sum_at (suc t) s, sum_at (suc (suc t)) s, first_more, second_more) (sym (added (X (suc t)) (Y (suc t)) a b (2 ^ 64))) in
        let room : read_sum x y (suc (suc t)) < 2 * 2 ^ (64 * suc (suc t)) = omega (arith, sum_at (suc (suc t)) s, first_lt (suc (suc t)), second_lt (suc (suc t))) in
        subst (λ (n : ℕ). ShowsFront next (suc t) n) more (step.sum s t D shows unmixed (rw more room))

    difference_next : pair.same ≡ false → ShowsFront next (suc t) (read_sum x y (suc (suc t)))
    difference_next s =
        let lead : Y (suc t) * 2 ^ 64 + b < X (suc t) * 2 ^ 64 + a = rw (first_more, second_more) at (leads_at (suc (suc t)) (omega arith) s) in
        let parts = taken (X (suc t)) (Y (suc t)) a b (rw a_is (column_lt 0 first (suc t))) (rw b_is (column_lt pair.gap second (suc t))) lead in
        let more : D * 2 ^ 64 + a - b ≡ read_sum x y (suc (suc t)) =
        rw (difference_at (suc t) s, difference_at (suc (suc t)) s, first_more, second_more) parts.1 in
        let room : D < 2 * 2 ^ (64 * suc t) = omega (arith, difference_at (suc t) s, first_lt (suc t)) in
        subst (λ (n : ℕ). ShowsFront next (suc t) n) more (step.difference s t D shows unmixed room (rw (difference_at (suc t) s) parts.0))

    next_shows : ShowsFront next (suc t) (read_sum x y (suc (suc t)))
    next_shows = go pair.same refl
      where
        go : (s : Bool) → pair.same ≡ s → ShowsFront next (suc t) (read_sum x y (suc (suc t)))
        go true s = sum_next s
        go false s = difference_next s

  -- ---- what is then read

  module _ (begun : Front) (is : first_of begun ≡ N) (odd : Bool) (odd_is : odd ≡ eqb (begun.limb % 2) 1) (tail : Tail) where
    -- the first column above the tail of those passed
    abbrev above : Front
    above = record { carry = begun.carry; limb = begun.limb; tail = tail }

    above_is : first_of above ≡ N
    unfolding first_of
    above_is = is

    kept_shown : (t : ℕ) → PassedBelow pair odd first second (suc t) → KeptTail odd (suc t) tail → Kept N t (read_sum x y (suc t)) × ShowsFront above t (read_sum x y (suc t))
    kept_shown t passed below = go odd refl
      where
        go : (o : Bool) → odd ≡ o → Kept N t (read_sum x y (suc t)) × ShowsFront above t (read_sum x y (suc t))
        go true e =
            let last : N % 2 ≡ 1 = odd_ones begun N is (eqb-true (begun.limb % 2) 1 (sym odd_is ∙ e)) in
            let k = passed_odd t odd passed e last in
            (k, shown_odd t k above above_is odd below e last)
        go false e =
            let last : N % 2 ≡ 0 = even_zeros begun N is (eqb-false (begun.limb % 2) 1 (sym odd_is ∙ e)) in
            let k = passed_even t odd passed e last in
            (k, shown_even t k above above_is odd below e last)

    module _ (p stop : ℕ) (inner : Inner pair stop) (a b : ℕ) (next : Front) (step : Stepped pair.same above a b next) where
      reads : (t columns : ℕ) → columns ≡ suc (suc t) → suc t ≤ stop → PassedBelow pair odd first second (suc t) → KeptTail odd (suc t) tail
          → a ≡ column_of (suc t) 0 first → b ≡ column_of (suc t) pair.gap second → (fixed : Bool) → (fixed ≡ true → Ends p pair next columns) → (fixed ≡ false → Ends p pair next columns → ⊥)
          → ReadOn p pair stop x y (record { fixed = fixed; front = next; columns = columns })
      reads t columns e few passed below a_is b_is fixed ends goes_on =
          let before : columns - 1 ≡ suc t = omega arith in
          let under : columns - 2 ≡ t = omega arith in
          let k = kept_shown t passed below in
          record {
            some = omega arith;
            near = omega arith;
            kept = rw (under, before) k.0;
            shows = rw (before, e) (next_shows t a b a_is b_is above next k.1 below.unmixed step);
            ends = ends;
            goes_on = goes_on;
          }

      pub read_on : (on : ℕ) → NotPast 1 stop on → PassedBelow pair odd first second on → KeptTail odd on tail
          → a ≡ column_of on 0 first → b ≡ column_of on pair.gap second → (fixed : Bool) → (fixed ≡ true → Ends p pair next (on + 1)) → (fixed ≡ false → Ends p pair next (on + 1) → ⊥)
          → ReadOn p pair stop x y (record { fixed = fixed; front = next; columns = on + 1 })
      read_on zero within = absurd (omega (arith, within.on))
      read_on (suc t) within = reads t (suc t + 1) (omega arith) (within.within inner.some)

-- ---- how many columns that is

pub next_few : (pair : Pair) (stop : ℕ) → Inner pair stop → (on : ℕ) → NotPast 1 stop on → on + 1 ≤ suc stop
next_few pair stop inner on within = omega (arith, within.within inner.some)

module _ (pair : Pair) (first second : List ℕ) (offered : Offered pair first second) (stop : ℕ) (inner : Inner pair stop) (k : ℕ) (few : k ≤ suc stop) where
  near : k ≤ deepest
  near = inner_near offered.larger offered.other pair first second offered.holding stop inner k few

  pub columns_modest : Modest pair k
  columns_modest = subst (λ (s : Pair). Modest s k) (sym offered.holding.pair_is) (pair_modest offered.larger offered.other k offered.holding.course.ordered near)

  pub columns_fit : k < 2 ^ 64
  columns_fit = omega (arith, near, deepest_today)
