-- What the first operand fixes where the second lies far below it: its columns, and a little more or a little less, round to the answer. Assumes nothing.
use mathlib.Core.Path.{◌≡◌, refl, sym, ap, ◌∙◌, subst}
use mathlib.Core.Bool.{Bool, true, false, cond, ◌&&◌}
use mathlib.Core.List.{List}
use Prim.Native.Nat.{ℕ, zero, suc, ◌+◌, ◌-◌, ◌*◌, ◌^◌, ◌≤◌, ◌<◌}
use native.Mathlib.Nat.{pow-zero}
use native.Mathlib.Omega.{arith}
use borrow.Author.Tests.{leb-true}
use lib.Dec.{leb}
use lib.ListN.{length, get_or, take}
use lib.Pow.{pow-add, pow_pos}
use Rattle.limb.proofs.Tests.{both_true}
use Rattle.limb.specs.Value.{value_of, value_in, Below}
use Rattle.limb.specs.Carry.{bit}
use Rattle.limb.proofs.Value.{value_lt, value_take_lt, base_pow}
use Rattle.numbers.specs.Limits.{most_precision, limbs_for}
use Rattle.numbers.specs.Operand.{Operand}
use Rattle.rounding.specs.Mode.{Way, way}
use Rattle.rounding.specs.declared.Mode.{Mode}
use Rattle.rounding.specs.Answer.{rounded}
use Rattle.rounding.specs.Sum.{add}
use Rattle.depth.specs.Bound.{deepest}
use Rattle.decide.specs.Decide.{decide_at}
use Rattle.place.specs.Placed.{run_number}
use Rattle.kept.proofs.Reaching.{top_apart}
use Rattle.columns.specs.Column.{read_to}
use Rattle.walk.specs.Change.{ChangedFrom}
use Rattle.walk.specs.declared.change.Change.TheVariants.{Fall}
use Rattle.walk.specs.declared.state.Window.{Window}
use Rattle.columns.proofs.Reading.{read_lt, read_early}
use Rattle.leap.specs.Leap.{Leapt}
use Rattle.settle.specs.Rows.{row_of}
use Rattle.settle.specs.declared.rows.Pair.{Pair}
use Rattle.settle.specs.declared.rows.Row.TheVariants.{Hole}
use Rattle.bridge.specs.Verdict.{pair_of, Ordered, read_sum}
use Rattle.bridge.proofs.Read.{read_lead, read_some}
use Rattle.bridge.proofs.FarHole.{far_fixed, far_sum, far_difference}
use Rattle.bridge.proofs.Covered.{columns_above}
use Rattle.checks.specs.Room.{Room}
use Rattle.descent.specs.Course.{Prompt, Sighted}
use Rattle.descent.proofs.JudgingRange.{digits_some}
use Rattle.descent.proofs.GoingDown.{room_some}
use Rattle.descent.proofs.AtOnce.{head_is, prompt_open}
use Rattle.descent.proofs.RegularEnd.{deep_enough}
use Rattle.wide.specs.Filling.{Holding, Rounds}
use Rattle.wide.specs.Covering.{Covers}
use Rattle.wide.specs.Beside.{Beside}
use Rattle.wide.proofs.Unread.{row_hole}
use Rattle.wide.proofs.FullTarget.{offered_second}
use Rattle.wide.proofs.GuardBelow.{read_held}

-- ---- what the code asks

pub sum_fits : (p n : ℕ) → Room p n → p + 1 < 2 ^ 64
unfolding most_precision
sum_fits p n room = omega (arith, room.most)

pub covers : (pair : Pair) (first second n : ℕ) → Sighted pair first 0 n → Prompt pair first second 0 n → Covers first n
covers pair first second n s q = record { some = s.some; enough = omega (arith, q.first_long); few = s.first_few }

-- ---- the target, as it is filled

module _ (first before : List ℕ) (a : Covers (length first) (length before)) where
  abbrev m : ℕ
  m = length before - 1

  pub first_fills : Below (2 ^ 64) first → (after : List ℕ) (w : Window) → Leapt 0 (m + 1) (read_to (m + 1) 0 first) before after w → value_of after ≡ read_to (length before) 0 first
  unfolding bit
  first_fills lim after w l = subst (λ (j : ℕ). value_of after ≡ read_to j 0 first) places (go w.carry (l.value ∙ head_is w after (rw l.same_length a.some) l.full) (rw columns (read_lt 0 first lim (m + 1))))
    where
      places : m + 1 ≡ length before
      places = omega (arith, a.some)

      columns : length after ≡ m + 1
      columns = omega (arith, a.some, l.same_length)

      go : (c : Bool) → read_to (m + 1) 0 first ≡ bit c * 2 ^ (64 * length after) + value_of after → read_to (m + 1) 0 first < 2 ^ (64 * length after) → value_of after ≡ read_to (m + 1) 0 first
      go true e h = absurd (omega arith)
      go false e h = omega arith

-- one taken off a number that is not 0
pub number_falls : (before after : List ℕ) (out : Bool) (D : ℕ) → Below (2 ^ 64) after → value_of before ≡ D → ChangedFrom Fall 0 before after out → 0 < D → suc (value_of after) ≡ D
unfolding bit
number_falls before after out D lim is f some = go out (value_of after) (value_of before) ((2 ^ 64) ^ length before) (rw (pow-zero (2 ^ 64)) at f.value) (rw f.same_length at (value_lt (2 ^ 64) after lim)) (rw is some) ∙ is
  where
    go : (b : Bool) (u v P : ℕ) → u + 1 ≡ v + P * bit b → u < P → 0 < v → suc u ≡ v
    go true u v P e h s = absurd (omega arith)
    go false u v P e h s = omega arith

-- ---- the answer

-- D has its first digit at the top of the limbs: one less still has a digit in the top limb
top_some : (l : List ℕ) (D : ℕ) → 0 < length l → Below (2 ^ 64) l → 2 ^ (64 * length l - 1) ≤ D → D ≤ suc (value_of l) → 0 < get_or l (length l - 1) 0
top_some l D some lim lead near =
    go (get_or l (length l - 1) 0) (value_in (2 ^ 64) (take (length l - 1) l)) (2 ^ (64 * (length l - 1))) (2 ^ (64 * length l - 1)) (value_of l)
    (rw (base_pow (length l - 1)) at (top_apart (2 ^ 64) l some)) (rw (base_pow (length l - 1)) at (value_take_lt (2 ^ 64) (length l - 1) l lim)) power (pow_pos (64 * (length l - 1))) lead near
  where
    power : 2 ^ (64 * length l - 1) ≡ 2 ^ 63 * 2 ^ (64 * (length l - 1))
    power = ap (λ (n : ℕ). 2 ^ n) (let z : 64 * length l - 1 ≡ 63 + 64 * (length l - 1) = omega arith in z) ∙ pow-add 2 63 (64 * (length l - 1))

    go : (t r Q H v : ℕ) → v ≡ r + Q * t → r < Q → H ≡ 2 ^ 63 * Q → 0 < Q → H ≤ D → D ≤ suc v → 0 < t
    go zero r Q H v e h i s l n = absurd (omega arith)
    go (suc t) r Q H v e h i s l n = omega arith

module _ (p : ℕ) (pair : Pair) (first second before after : List ℕ) (room : Room p (length before)) (apart : (leb (64 * length before) pair.gap && leb pair.first (64 * length before)) ≡ true) (far : p + 1 < pair.gap)
    (prompt : Prompt pair (length first) (length second) 0 (length before)) (size : length after ≡ length before) (lim : Below (2 ^ 64) after) (o : Mode) (x y : Operand) (h : Holding x y pair first second) where
  abbrev n : ℕ
  n = length before

  abbrev d : Ordered x y
  d = h.course.ordered

  abbrev w : Way
  w = way o x.negative

  some : 1 ≤ n
  some = room_some p n room

  pos : 0 < p
  pos = digits_some p n room

  near : n ≤ deepest
  unfolding limbs_for most_precision
  near = omega (arith, room.count, room.most, deep_enough)

  few : p ≤ 64 * n
  unfolding limbs_for
  few = omega (arith, room.count)

  abbrev D : ℕ
  D = read_to n 0 first

  is : row_of (pair_of x y) n ≡ Hole
  is = ap (λ (s : Pair). row_of s n) (sym h.pair_is) ∙ row_hole pair n (offered_second p pair first second (record { larger = x; other = y; holding = h })) apart

  away : p + 1 < (pair_of x y).gap
  away = rw h.pair_is at far

  -- what is read is the first operand
  reads : read_sum x y n ≡ D
  reads = read_held x y pair first second h n ∙ rw none (go pair.same)
    where
      none : read_to n pair.gap second ≡ 0
      none = read_early pair.gap second (subst (Below (2 ^ 64)) (sym h.second_is) d.second.limb) n (leb-true (64 * n) pair.gap (both_true (leb (64 * n) pair.gap) (leb pair.first (64 * n)) apart).0)

      go : (b : Bool) → cond b (D + 0) (D - 0) ≡ D
      go true = omega arith
      go false = omega arith

  above : 64 * (n + 1) + 1 ≤ x.exponent
  above = columns_above x d.first d.regular (n + 1) (omega (arith, near, deep_enough))

  below : 64 * 1 + 1 ≤ x.exponent - 64 * n
  below = omega (arith, above)

  mine : Prompt (pair_of x y) (length x.limbs) (length y.limbs) 0 n
  mine = rw (h.pair_is, h.first_is, h.second_is) at prompt

  rounds : (guard N : ℕ) → D ≤ suc (value_of after) → add o p x y ≡ rounded w p (x.exponent - 64 * n - 64 * 1 - 1) x.negative N → N ≡ run_number false after guard true → Rounds o p x y after false guard true n
  rounds guard N up e run =
      record {
        some = some;
        near = near;
        fixed = far_fixed o p pos x y n d some is away;
        first = λ l. subst (λ (m : ℕ). decide_at o p x y m ≡ false) (start (n - 1)) (prompt_open o p x y 0 h.course before room mine (omega arith));
        answer = e ∙ ap (λ (m : ℕ). rounded w p (m - 1) x.negative N) (rw size (place x.exponent n)) ∙ ap (rounded w p (x.exponent - 64 * (length after + 1) - 1) x.negative) run;
        led = λ f. top_some after D (rw size some) lim (rw (size, h.first_is) (read_lead x d.first d.regular n some)) up;
      }
    where
      start : (m : ℕ) → 0 + m ≡ m
      start m = omega arith

      place : (e m : ℕ) → e - 64 * m - 64 * 1 ≡ e - 64 * (m + 1)
      place e m = omega arith

  pub hollow_sum : pair.same ≡ true → value_of after ≡ D → Rounds o p x y after false 0 true n
  unfolding run_number bit
  hollow_sum s v = rounds 0 _ (omega (arith, v)) (far_sum o p pos x y n d some is away 1 below (omega (arith, few)) (rw h.pair_is at s)) (rw (reads, ← v) (run (value_of after) (2 ^ (64 * length after))))
    where
      run : (v P : ℕ) → 2 * (v * 2 ^ 64) + 1 ≡ 2 * ((0 * P + v) * 2 ^ 64 + 0) + 1
      run v P = omega arith

  pub hollow_difference : pair.same ≡ false → (0 < D → suc (value_of after) ≡ D) → Rounds o p x y after false 18446744073709551615 true n
  unfolding run_number bit
  hollow_difference s t = rounds 18446744073709551615 _ (omega (arith, v)) (far_difference o p pos x y n d some is away 1 below (omega (arith, few)) (rw h.pair_is at s)) (rw (reads, ← v) (run (value_of after) (2 ^ (64 * length after))))
    where
      v : suc (value_of after) ≡ D
      v = t (rw h.first_is (read_some x d.first d.regular n some))

      run : (v P : ℕ) → 2 * (suc v * 2 ^ 64) - 1 ≡ 2 * ((0 * P + v) * 2 ^ 64 + 18446744073709551615) + 1
      run v P = omega arith

  -- what is read stood in a run, and a little more or a little less is left there
  pub hollow_rounds : (run : List ℕ) (guard : ℕ) → value_of run ≡ D → Beside pair.same run after guard → Rounds o p x y after false guard true n
  hollow_rounds run guard e b = go pair.same refl
    where
      go : (s : Bool) → pair.same ≡ s → Rounds o p x y after false guard true n
      go true s = rw (b.more s).1 (hollow_sum s ((b.more s).0 ∙ e))
      go false s = rw (b.less s).1 (hollow_difference s (rw e at (b.less s).0))
