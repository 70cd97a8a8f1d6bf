-- Two limbs further apart than the answer is long: one column fixes it, and the larger with a little more, or a little less, rounds to it; what is taken up again leaves the larger as it stands. Assumes nothing.
use mathlib.Core.Path.{◌≡◌, refl, sym, ap, ◌∙◌}
use mathlib.Core.Bool.{Bool, true, false, not, cond, ◌&&◌}
use mathlib.Core.List.{List, [], ◌∷◌}
use Prim.Native.Nat.{ℕ, zero, suc, ◌+◌, ◌-◌, ◌*◌, ◌^◌, ◌≤◌, ◌<◌}
use native.Mathlib.Nat.{pow-succ', mul-le-mul_right, mul-mod_left}
use native.Mathlib.Omega.{arith}
use borrow.Author.Tests.{le-leb}
use lib.Dec.{leb}
use lib.ListN.{length, get_or, take}
use lib.Pow.{pow_pos, pow-add}
use Rattle.limb.specs.Value.{value_of, value_in, Below}
use Rattle.limb.specs.Carry.{bit}
use Rattle.limb.proofs.Value.{value_take_lt, base_pow}
use Rattle.numbers.specs.Limits.{most_precision, limbs_for}
use Rattle.numbers.specs.Operand.{Operand, spare_bits}
use Rattle.numbers.proofs.Digits.{precision_two}
use Rattle.rounding.specs.Mode.{Way, way}
use Rattle.rounding.specs.declared.Mode.{Mode}
use Rattle.rounding.specs.Answer.{rounded}
use Rattle.rounding.specs.Sum.{add}
use Rattle.decide.specs.Decide.{decide_at}
use Rattle.place.specs.declared.Placed.{Placed}
use Rattle.place.specs.Placed.{run_number, run_answer, placed_of, limbs_after}
use Rattle.place.specs.Beside.{Stored, below_answer}
use Rattle.kept.proofs.Reaching.{top_apart}
use Rattle.reports.specs.Counts.{used_of}
use Rattle.reports.specs.Signed.{Signed}
use Rattle.reports.proofs.Counts.{used_all, used_none}
use Rattle.columns.proofs.Reading.{read_early}
use Rattle.walk.specs.Change.{ChangedFrom}
use Rattle.walk.specs.declared.change.Change.TheVariants.{Fall}
use Rattle.settle.specs.Rows.{row_of}
use Rattle.settle.proofs.Units.{whole_less}
use Rattle.settle.specs.declared.rows.Pair.{Pair}
use Rattle.settle.specs.declared.rows.Row.TheVariants.{Hole}
use Rattle.bridge.specs.Verdict.{pair_of, Ordered, read_sum}
use Rattle.bridge.proofs.Told.{pair_second}
use Rattle.bridge.proofs.FarHole.{far_fixed, far_sum, far_difference}
use Rattle.bridge.proofs.Covered.{columns_above}
use Rattle.checks.specs.Room.{Room}
use Rattle.descent.proofs.JudgingRange.{digits_some}
use Rattle.descent.specs.Finishing.{Left}
use Rattle.descent.proofs.RegularEnd.{deep_enough, rounded_signed}
use Rattle.wide.specs.Filling.{Holding, Rounds}
use Rattle.wide.specs.Attempted.{Attempted}
use Rattle.wide.proofs.Unread.{row_hole}
use Rattle.wide.proofs.GuardBelow.{read_held}
use Rattle.wide.proofs.InHollow.{number_falls}
use Rattle.wide.proofs.InOrder.{fixed_told}
use Rattle.twolimbs.specs.Two.{head_in}
use Rattle.wide.specs.Beside.{Beside}
use Rattle.short.proofs.Held.{first_few, first_large, top_told, read_one, second_lim}

-- a limb at the top of n, and zeros below
pub alone_worth : (u n : ℕ) → 1 < n → head_in (2 ^ 64) false u 0 * (2 ^ 64) ^ (n - 2) ≡ u * (2 ^ 64) ^ (n - 1)
unfolding head_in bit
alone_worth u n h = go (2 ^ 64) ((2 ^ 64) ^ (n - 2)) ∙ ap (λ (m : ℕ). u * m) (sym (pow-succ' (2 ^ 64) (n - 2)) ∙ ap (λ (m : ℕ). (2 ^ 64) ^ m) (let z : suc (n - 2) ≡ n - 1 = omega arith in z))
  where
    go : (B Q : ℕ) → ((0 * B + u) * B + 0) * Q ≡ u * (B * Q)
    go B Q = omega arith

-- a number that takes all limbs has a digit in the top one
top_led : (l : List ℕ) → 0 < length l → Below (2 ^ 64) l → (2 ^ 64) ^ (length l - 1) ≤ value_of l → 0 < get_or l (length l - 1) 0
top_led l some lim e = go (get_or l (length l - 1) 0) (value_of l) (value_in (2 ^ 64) (take (length l - 1) l)) ((2 ^ 64) ^ (length l - 1)) (top_apart (2 ^ 64) l some) (value_take_lt (2 ^ 64) (length l - 1) l lim) e
  where
    go : (t v r Q : ℕ) → v ≡ r + Q * t → r < Q → Q ≤ v → 0 < t
    go zero v r Q e h l = absurd (omega arith)
    go (suc t) v r Q e h l = omega arith

-- the counts of the larger and of the other
far_counts : (s : Bool) (gap i j : ℕ) → 64 ≤ gap → i ≡ cond (not s) 1 0 → j ≡ cond s 1 0 → (cond s j i ≡ used_of 1 0 1) × (cond s i j ≡ used_of 1 gap 1)
far_counts true gap i j h a b = (b ∙ used_all 1 0 1 (omega arith) (omega arith), a ∙ used_none 1 gap 1 h)
far_counts false gap i j h a b = (a ∙ used_all 1 0 1 (omega arith) (omega arith), b ∙ used_none 1 gap 1 h)

far_apart : (p n gap : ℕ) → Room p n → 2 < n → p + 1 < gap → 64 ≤ gap
unfolding limbs_for
far_apart p n gap room long far = omega (arith, room.count)

module _ (p : ℕ) (pair : Pair) (u v n : ℕ) (room : Room p n) (long : 2 < n) (far : p + 1 < pair.gap) (o : Mode) (x y : Operand) (h : Holding x y pair (u ∷ []) (v ∷ [])) where
  abbrev d : Ordered x y
  d = h.course.ordered

  abbrev w : Way
  w = way o x.negative

  some_p : 0 < p
  some_p = digits_some p n room

  beyond : 64 ≤ pair.gap
  beyond = far_apart p n pair.gap room long far

  fits : p ≤ 64 * n
  unfolding limbs_for
  fits = omega (arith, room.count)

  is : row_of (pair_of x y) 1 ≡ Hole
  is =
      let apart : (leb (64 * 1) pair.gap && leb pair.first (64 * 1)) ≡ true = rw (le-leb (64 * 1) pair.gap beyond, le-leb pair.first (64 * 1) (first_few x y pair u v h)) refl in
      let some : 0 < pair.second = rw h.pair_is (omega (arith, pair_second x y h.regular, precision_two y d.second)) in
      ap (λ (q : Pair). row_of q 1) (sym h.pair_is) ∙ row_hole pair 1 some apart

  away : p + 1 < (pair_of x y).gap
  away = rw h.pair_is at far

  reads : read_sum x y 1 ≡ u
  reads = read_held x y pair (u ∷ []) (v ∷ []) h 1 ∙ rw (read_one u, read_early pair.gap (v ∷ []) (second_lim x y pair u v h) 1 beyond) (go pair.same)
    where
      go : (b : Bool) → cond b (u + 0) (u - 0) ≡ u
      go true = omega arith
      go false = omega arith

  abbrev large : 2 ^ 63 ≤ u
  large = first_large x y pair u v h

  above : 64 * (n + 1) + 1 ≤ x.exponent
  unfolding limbs_for most_precision
  above = columns_above x d.first d.regular (n + 1) (omega (arith, room.count, room.most, deep_enough))

  below : 64 * n + 1 ≤ x.exponent - 64 * 1
  below = omega (arith, above)

  abbrev Q : ℕ
  Q = (2 ^ 64) ^ (n - 1)

  power : 2 ^ (64 * n) ≡ Q * 2 ^ 64
  power = sym (base_pow n) ∙ ap (λ (m : ℕ). (2 ^ 64) ^ m) (let z : n ≡ suc (n - 1) = omega arith in z) ∙ pow-succ' (2 ^ 64) (n - 1) ∙ turn (2 ^ 64) Q
    where
      turn : (a b : ℕ) → a * b ≡ b * a
      turn a b = omega arith

  fixed : decide_at o p x y 1 ≡ true
  fixed = far_fixed o p some_p x y 1 d (omega arith) is away

  sum_is : pair.same ≡ true → add o p x y ≡ rounded w p (x.exponent - 64 * 1 - 64 * n - 1) x.negative (2 * (read_sum x y 1 * 2 ^ (64 * n)) + 1)
  sum_is s = far_sum o p some_p x y 1 d (omega arith) is away n below (omega (arith, fits)) (rw h.pair_is at s)

  difference_is : pair.same ≡ false → add o p x y ≡ rounded w p (x.exponent - 64 * 1 - 64 * n - 1) x.negative (2 * (read_sum x y 1 * 2 ^ (64 * n)) - 1)
  difference_is s = far_difference o p some_p x y 1 d (omega arith) is away n below (omega (arith, fits)) (rw h.pair_is at s)

  -- the place of the guard below the target
  place : (m : ℕ) → m ≡ n → x.exponent - 64 * 1 - 64 * n ≡ pair.top - 64 * (m + 1)
  place m e = omega (arith, top_told x y pair u v h)

  -- one column fixes it, and it has the sign of the larger
  pub apart_told : (negative : Bool) → negative ≡ x.negative → (swapped : Bool) {exit : List ℕ} {placed : Placed} {i j : ℕ} → Left p (add o p x y) exit placed → i ≡ cond (not swapped) 1 0 → j ≡ cond swapped 1 0
      → Attempted o p x y exit negative placed 1 (cond swapped j i) (cond swapped i j)
  apart_told negative sign swapped {exit} {placed} {i} {j} left a b =
      fixed_told p some_p pair (u ∷ []) (v ∷ []) x y h o (omega arith) (omega (arith, deep_enough)) fixed (λ l. absurd (omega arith)) left (rw sign (go pair.same refl)) (far_counts swapped pair.gap i j beyond a b)
    where
      go : (s : Bool) → pair.same ≡ s → Signed x.negative (add o p x y)
      go true s = rw (sum_is s) (rounded_signed _ _ _ _ _)
      go false s = rw (difference_is s) (rounded_signed _ _ _ _ _)

  module _ (after : List ℕ) (count : length after ≡ n) (lim : Below (2 ^ 64) after) where
    rounds : (guard N : ℕ) → Q ≤ value_of after → add o p x y ≡ rounded w p (x.exponent - 64 * 1 - 64 * n - 1) x.negative N → N ≡ run_number false after guard true → Rounds o p x y after false guard true 1
    rounds guard N up e run =
        record {
          some = omega arith;
          near = omega (arith, deep_enough);
          fixed = fixed;
          first = λ l. absurd (omega arith);
          answer = e ∙ ap (λ (m : ℕ). rounded w p (m - 1) x.negative N) (rw (top_told x y pair u v h) at (place (length after) count)) ∙ ap (rounded w p (x.exponent - 64 * (length after + 1) - 1) x.negative) run;
          led = λ f. top_led after (rw count (omega arith)) lim (rw count up);
        }

    pub far_more : pair.same ≡ true → value_of after ≡ u * Q → Rounds o p x y after false 0 true 1
    unfolding run_number bit
    far_more s e =
        rounds 0 _ (rw e (least u Q large)) (sum_is s)
        (rw (reads, e, power) (run u Q (2 ^ 64) (2 ^ (64 * length after))))
      where
        least : (u Q : ℕ) → 2 ^ 63 ≤ u → Q ≤ u * Q
        least u Q l = omega (arith, mul-le-mul_right Q l)

        run : (u Q B P : ℕ) → 2 * (u * (Q * B)) + 1 ≡ 2 * ((0 * P + u * Q) * B + 0) + 1
        run u Q B P = omega arith

    pub far_less : pair.same ≡ false → suc (value_of after) ≡ u * Q → Rounds o p x y after false 18446744073709551615 true 1
    unfolding run_number bit
    far_less s e =
        rounds 18446744073709551615 _ (least u Q (value_of after) large some_Q e) (difference_is s)
        (rw (reads, power) (run u Q (value_of after) (2 ^ (64 * length after)) e))
      where
        some_Q : 0 < Q
        some_Q = rw (base_pow (n - 1)) (pow_pos (64 * (n - 1)))

        least : (u Q m : ℕ) → 2 ^ 63 ≤ u → 0 < Q → suc m ≡ u * Q → Q ≤ m
        least u Q m l q e = omega (arith, mul-le-mul_right Q l)

        run : (u Q m P : ℕ) → suc m ≡ u * Q → 2 * (u * (Q * 2 ^ 64)) - 1 ≡ 2 * ((0 * P + m) * 2 ^ 64 + 18446744073709551615) + 1
        run u Q m P e = omega (arith, ap (λ (k : ℕ). k * 2 ^ 64) e)

    -- the larger stood in a run, and a little more or a little less is left there
    pub far_beside : (run : List ℕ) (guard : ℕ) → value_of run ≡ u * Q → Beside pair.same run after guard → Rounds o p x y after false guard true 1
    far_beside run guard e b = go pair.same refl
      where
        some_Q : 0 < Q
        some_Q = rw (base_pow (n - 1)) (pow_pos (64 * (n - 1)))

        some : (m : ℕ) → 2 ^ 63 ≤ m → 0 < Q → 0 < m * Q
        some m l q = omega (arith, mul-le-mul_right Q l)

        go : (s : Bool) → pair.same ≡ s → Rounds o p x y after false guard true 1
        go true s = rw (b.more s).1 (far_more s ((b.more s).0 ∙ e))
        go false s = rw (b.less s).1 (far_less s ((b.less s).0 (rw e (some u large some_Q)) ∙ e))

    -- ---- the larger as it is

    whole : value_of after ≡ u * Q → value_of after ≡ u * 2 ^ (64 * (n - 1))
    whole e = e ∙ ap (λ (m : ℕ). u * m) (base_pow (n - 1))

    -- it has no more digits than the answer
    stored : value_of after ≡ u * Q → Stored p pair.top after
    unfolding spare_bits limbs_for
    stored e =
        record {
          some = some_p;
          count = count ∙ room.count;
          limb = lim;
          lead = rw (count, whole e, leading) (mul-le-mul_right (2 ^ (64 * (n - 1))) large);
          clean = whole_less (value_of after) (64 * (n - 1)) (spare_bits p) (omega (arith, room.count)) (rw (whole e) (mul-mod_left u (2 ^ (64 * (n - 1)))));
          deep = rw (count, top_told x y pair u v h) (omega (arith, above));
          least = rw (top_told x y pair u v h) (d.first.regular d.regular).least;
          most = rw (top_told x y pair u v h) (d.first.regular d.regular).most;
        }
      where
        leading : 2 ^ (64 * n - 1) ≡ 2 ^ 63 * 2 ^ (64 * (n - 1))
        leading = ap (λ (m : ℕ). 2 ^ m) (let z : 64 * n - 1 ≡ 63 + 64 * (n - 1) = omega arith in z) ∙ pow-add 2 63 (64 * (n - 1))

    -- a difference is a little less than it
    restored_is : pair.same ≡ false → value_of after ≡ u * Q → add o p x y ≡ rounded w p (pair.top - 64 * (length after + 1) - 1) x.negative (2 * (value_of after * 2 ^ 64) - 1)
    restored_is s e =
        difference_is s
        ∙ ap (λ (m : ℕ). rounded w p (m - 1) x.negative (2 * (read_sum x y 1 * 2 ^ (64 * n)) - 1)) (place (length after) count)
        ∙ ap (rounded w p (pair.top - 64 * (length after + 1) - 1) x.negative) (rw (reads, e, power) (run u Q (2 ^ 64)))
      where
        run : (u Q B : ℕ) → 2 * (u * (Q * B)) - 1 ≡ 2 * (u * Q * B) - 1
        run u Q B = omega arith

-- what is told of a little less than the larger, where it stands in the target
pub restored_left : (p : ℕ) (pair : Pair) (u v n : ℕ) → Room p n → 2 < n → p + 1 < pair.gap → (mode : Mode) (x y : Operand) → Holding x y pair (u ∷ []) (v ∷ []) → (after : List ℕ) → length after ≡ n → Below (2 ^ 64) after
    → value_of after ≡ u * (2 ^ 64) ^ (n - 1) → pair.same ≡ false → (negative : Bool) → negative ≡ x.negative → {r : Placed}
    → (Stored p pair.top after → (r ≡ placed_of (below_answer mode p negative pair.top after)) × (after ≡ limbs_after p (below_answer mode p negative pair.top after))) → Left p (add mode p x y) after r
unfolding below_answer run_answer
restored_left p pair u v n room long far mode x y h after count lim e s negative sign told =
    let t = told (stored p pair u v n room long far mode x y h after count lim e) in
    record { told = t.0 ∙ ap placed_of same; limbs = t.1 ∙ ap (limbs_after p) same }
  where
    same : below_answer mode p negative pair.top after ≡ add mode p x y
    same = rw sign (sym (restored_is p pair u v n room long far mode x y h after count lim s e))
