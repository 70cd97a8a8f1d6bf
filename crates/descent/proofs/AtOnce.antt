-- Why the columns that fill the target may be read at once: one fewer fixes nothing, and what then stands in the target is what is read of the sum. Assumes nothing.
use mathlib.Core.Path.{◌≡◌, refl, sym, ap, ◌∙◌, subst}
use mathlib.Core.Bool.{Bool, true, false, not, cond, ◌&&◌, ◌||◌, true≢false, and-false}
use mathlib.Core.List.{List}
use Prim.Native.Nat.{ℕ, zero, suc, ◌+◌, ◌-◌, ◌*◌, ◌/◌, ◌%◌, ◌^◌, ◌≤◌, ◌<◌}
use native.Mathlib.Decide.{dec_le}
use native.Mathlib.Nat.{div-add-mod', mod-lt, mul-le-mul_left, mul-le-mul_right}
use native.Mathlib.Omega.{arith}
use borrow.Author.Tests.{le-ltb, lt-leb, leb-true, ltb-true, ltb-false}
use lib.Dec.{ltb, leb, eqb}
use lib.ListN.{length, drop, get_or}
use lib.Pow.{pow_pos, pow-add}
use lib.Ieee.Digits.{size-le}
use Rattle.limb.specs.Value.{value_of, value_in}
use Rattle.limb.specs.Carry.{bit}
use Rattle.limb.proofs.Value.{value_split, value_drop, base_pow}
use Rattle.numbers.specs.Limits.{least_precision, most_precision, least_exponent, limbs_for}
use Rattle.numbers.specs.Operand.{Operand}
use Rattle.numbers.proofs.Digits.{precision_two}
use Rattle.rounding.specs.Mode.{Way, way}
use Rattle.rounding.specs.declared.Mode.{Mode}
use Rattle.depth.specs.Bound.{deepest}
use Rattle.depth.proofs.Bounds.{deepest_today}
use Rattle.decide.specs.Range.{large?, small?}
use Rattle.decide.specs.Decide.{decide_at}
use Rattle.decide.proofs.Settled.{enough_le}
use Rattle.columns.specs.Column.{read_to}
use Rattle.walk.specs.Window.{head_of}
use Rattle.walk.specs.declared.state.Window.{Window}
use Rattle.columns.proofs.Reading.{read_fewer}
use Rattle.leap.specs.Leap.{Within, Leap, Leapt}
use Rattle.settle.specs.Rows.{row_of, seen_row}
use Rattle.settle.specs.declared.rows.Pair.{Pair}
use Rattle.settle.specs.declared.rows.Row.{Row}
use Rattle.settle.specs.declared.rows.Way as code
use Rattle.settle.specs.declared.rows.Row.TheVariants.{Exact, Plus, Minus, Hole}
use Rattle.bounds.proofs.Ranges.{not_large, not_small}
use Rattle.bridge.specs.Verdict.{pair_of, Ordered, Leads, read_sum, settled_by, refused_by, test_by, verdict, inner?, is_far, open_digits}
use Rattle.bridge.proofs.Decision.{decision}
use Rattle.bridge.proofs.Told.{pair_first, pair_second, pair_top, alone_second, alone_same}
use Rattle.bridge.proofs.Answers.{settled_digits, sum_pos}
use Rattle.bridge.proofs.Covered.{settled_covers, columns_above}
use Rattle.bridge.proofs.Theorems.{leads_later}
use Rattle.descent.specs.declared.going.Verdict.{Verdict}
use Rattle.checks.specs.Room.{Room}
use Rattle.descent.specs.Course.{Course, Judged, Stopped, Inland, Prompt, Sighted, Held, Begun, Going, Reached, Underway, Arriving, Arrived, open?}
use Rattle.descent.proofs.GoingOn.{second_read, sum_is, sum_below, difference_is}
use Rattle.descent.proofs.JudgingRows.{pair_modest}
use Rattle.descent.proofs.GoingDown.{room_some, room_kept, open_before, held_first, goes_on, stops}

-- ---- a row with something unread of the first operand

seen_inner : (same both second first single : Bool) → inner? (cond same (cond both (Plus false true single) (Plus false false true)) (cond second (Minus first) (Plus false false true))) ≡ true
unfolding inner?
seen_inner true true second first single = refl
seen_inner true false second first single = refl
seen_inner false both true first single = refl
seen_inner false both false first single = refl

far_inner : (same next most : Bool) → inner? (cond same (Plus true next true) (Minus most)) ≡ true
unfolding inner?
far_inner true next most = refl
far_inner false next most = refl

inner_cond : (b : Bool) (r s : Row) → inner? r ≡ true → inner? s ≡ true → inner? (cond b r s) ≡ true
inner_cond true r s h i = h
inner_cond false r s h i = i

pub seen_row_lem : (s : Pair) (c : ℕ) → inner? (seen_row s c) ≡ true
seen_row_lem s c = seen_inner s.same (ltb c s.first && ltb c (s.gap + s.second)) (ltb c (s.gap + s.second)) (ltb c s.first) (not (eqb s.first (c + 1) && eqb (s.gap + s.second) (c + 1)))

inner_first : (s : Pair) (k : ℕ) → 64 * k < s.first → inner? (row_of s k) ≡ true
unfolding row_of
inner_first s k h =
    let c : ℕ = 64 * k in
    rw (lt-leb s.first (64 * k) h)
    (inner_cond (eqb s.second 0) (seen_row s c) (cond (leb c s.gap) (cond s.same (Plus true (ltb s.gap s.first) true) (Minus (not (eqb s.first (c + 1) && eqb s.gap c)))) (seen_row s c)) (seen_row_lem s c)
    (inner_cond (leb c s.gap) (cond s.same (Plus true (ltb s.gap s.first) true) (Minus (not (eqb s.first (c + 1) && eqb s.gap c)))) (seen_row s c)
    (far_inner s.same (ltb s.gap s.first) (not (eqb s.first (c + 1) && eqb s.gap c))) (seen_row_lem s c)))

-- ---- where no refusal is near, none is found

-- none is near after n columns, nor after fewer
pub inland_sooner : (pair : Pair) (n k : ℕ) → k ≤ n → Inland pair n → Inland pair k
inland_sooner pair n k l i = record { high = i.high; low = λ e. le-ltb (pair.top + 1) (least_exponent + 64 * k) (omega (arith, ltb-false (pair.top + 1) (least_exponent + 64 * n) (i.low e))) }

module _ (o : Mode) (p : ℕ) (P : 0 < p) (x y : Operand) (k : ℕ) (d : Ordered x y) (K : 1 ≤ k) (lead : Leads x y k) (above : 64 * k ≤ (pair_of x y).top) (inland : Inland (pair_of x y) k) where
  abbrev toward : Way
  toward = way o x.negative

  abbrev sum_read : ℕ
  sum_read = read_sum x y k

  pub unrefused : refused_by toward p (pair_of x y) k sum_read ≡ false
  unfolding refused_by
  unrefused = go (pair_of x y).same refl
    where
      sum : (pair_of x y).same ≡ true → sum_read < 2 * 2 ^ (64 * k)
      sum e = subst (λ (m : ℕ). read_sum x y m < 2 * 2 ^ (64 * m)) back (sum_below x y (k - 1) d e)
        where
          back : suc (k - 1) ≡ k
          back = omega (arith, K)

      go : (b : Bool) → (pair_of x y).same ≡ b
          → cond b (large? toward p ((pair_of x y).top - 64 * k) sum_read (is_far (pair_of x y) k) (is_far (pair_of x y) k && eqb (pair_of x y).gap (64 * k)))
          (not (is_far (pair_of x y) k) && small? toward p ((pair_of x y).top - 64 * k) sum_read (ltb 0 (open_digits (pair_of x y) k)) (open_digits (pair_of x y) k)) ≡ false
      go true e = not_large toward p (pair_of x y).top k sum_read _ _ above (inland.high e) (sum e)
      go false e = rw (not_small toward p (pair_of x y).top k sum_read (ltb 0 (open_digits (pair_of x y) k)) (open_digits (pair_of x y) k) above (inland.low e) (sum_pos o p P x y k d K lead)) (and-false (not (is_far (pair_of x y) k)))

-- ---- one column fewer than fill the target fixes nothing

near_less : (x y P : ℕ) → 0 < P → x / P ≡ y / P → x - y < P
near_less x y P pos e = go (x / P) (y / P) (x % P) (y % P) (div-add-mod' x P) (div-add-mod' y P) (mod-lt x pos) e
  where
    go : (q r u w : ℕ) → q * P + u ≡ x → r * P + w ≡ y → u < P → q ≡ r → x - y < P
    go q r u w a b l f = let g : q * P ≡ r * P = ap (λ (m : ℕ). m * P) f in omega arith

or_false : (a b : Bool) → (a ≡ true → ⊥) → b ≡ false → (a || b) ≡ false
or_false true b h e = absurd (h refl)
or_false false b h e = e

module _ (o : Mode) (p : ℕ) (x y : Operand) (from : ℕ) (course : Course x y from) (target : List ℕ) (room : Room p (length target)) (prompt : Prompt (pair_of x y) (length x.limbs) (length y.limbs) from (length target)) where
  abbrev i : ℕ
  i = length target - 1

  abbrev k : ℕ
  k = from + i

  some_p : 0 < p
  unfolding least_precision
  some_p = omega (arith, room.least)

  size_is : length target ≡ suc i
  size_is = omega (arith, room_some p (length target) room)

  short : 64 * i < p
  unfolding limbs_for
  short = omega (arith, room.count, size_is)

  last : from + length target - 1 ≡ k
  last = omega (arith, size_is)

  unread : 64 * k < (pair_of x y).first
  unfolding limbs_for
  unread = omega (arith, size_is, prompt.first_long, course.ordered.first.count, pair_first x y)

  few : k ≤ deepest
  unfolding limbs_for most_precision
  few = omega (arith, size_is, prompt.first_long, course.ordered.first.count, course.ordered.first.most, deepest_today)

  above : 64 * k ≤ (pair_of x y).top
  above = omega (arith, pair_top x y, columns_above x course.ordered.first course.ordered.regular k (omega (arith, few)))

  module _ (I : 1 ≤ i) where
    K : 1 ≤ k
    K = omega arith

    lead : Leads x y k
    lead = subst (Leads x y) places (leads_later x y (suc from) (i - 1) course.larger)
      where
        places : suc from + (i - 1) ≡ from + i
        places = omega arith

    abbrev w : Way
    w = way o x.negative

    abbrev D : ℕ
    D = read_sum x y k

    abbrev row : Row
    row = row_of (pair_of x y) k

    inner : inner? row ≡ true
    inner = inner_first (pair_of x y) k unread

    unsettled : settled_by w p D row ≡ true → ⊥
    unsettled s = go (pair_of x y).same refl
      where
        go : (b : Bool) → (pair_of x y).same ≡ b → ⊥
        go true e = let c = settled_covers o p some_p x y k course.ordered K row refl inner s in omega (arith, c, course.sum e, short)
        go false e =
            let c = enough_le w p D (settled_digits w p D row inner s) in
            let alike : read_to k 0 x.limbs / 2 ^ (64 * i) ≡ read_to k (pair_of x y).gap y.limbs / 2 ^ (64 * i) =
            read_fewer from i 0 x.limbs ∙ sym (course.level e) ∙ sym (read_fewer from i (pair_of x y).gap y.limbs) in
            let small : D < 2 ^ (64 * i) = rw (difference_is x y k course.ordered k e) (near_less (read_to k 0 x.limbs) (read_to k (pair_of x y).gap y.limbs) (2 ^ (64 * i)) (pow_pos (64 * i)) alike) in
            omega (arith, c, size-le D (64 * i) small, short)

    calm : refused_by w p (pair_of x y) k D ≡ false
    calm = unrefused o p some_p x y k course.ordered K lead above (rw last at prompt.inland)

    by_row : (row : Row) → inner? row ≡ true → (settled_by w p D row ≡ true → ⊥) → verdict o p x y k row ≡ false
    unfolding verdict test_by inner?
    by_row Exact h u = absurd (true≢false (sym h))
    by_row (Plus least next most) h u = or_false _ _ u calm
    by_row (Minus most) h u = or_false _ _ u calm
    by_row Hole h u = absurd (true≢false (sym h))

    open_inside : decide_at o p x y k ≡ false
    open_inside = decision o p some_p x y k course.ordered K lead ∙ by_row row inner unsettled

  pub prompt_open : 1 ≤ from + (length target - 1) → decide_at o p x y (from + (length target - 1)) ≡ false
  prompt_open h = elim (dec_le 1 i) [
    | yes I ↦ open_inside I
    | no I ↦ let z : from + i ≡ from = omega arith in rw z (open_before o p x y from course target room (rw z at h))
  ]

-- ---- what the code asks

module _ (p : ℕ) (toward : code.Way) (pair : Pair) (first second : List ℕ) (from : ℕ) (target : List ℕ) (room : Room p (length target)) (b : Begun toward pair first second from) where
  abbrev bx : Operand
  bx = b.larger

  abbrev by : Operand
  by = b.other

  same_pair : pair ≡ pair_of bx by
  same_pair = b.held.pair_is

  pub sighted : Sighted pair (length first) from (length target)
  unfolding limbs_for most_precision
  sighted =
      let m = pair_modest bx by from b.course.ordered b.course.near in
      record {
        some = room_some p (length target) room;
        target = omega (arith, room.count, room.most);
        first_few = omega (arith, ap length b.held.first_is, b.course.ordered.first.count, b.course.ordered.first.most);
        near = omega (arith, b.course.near, deepest_today);
        gap = rw same_pair m.gap;
        top = rw same_pair m.top;
        alone = λ e. rw same_pair (none (rw same_pair at e));
        sum = λ e. b.course.sum (rw same_pair at e);
      }
    where
      none : (pair_of bx by).second ≡ 0 → (pair_of bx by).same ≡ true
      none e = go by.is_zero refl
        where
          go : (z : Bool) → by.is_zero ≡ z → (pair_of bx by).same ≡ true
          go true f = alone_same bx by f
          go false f = absurd (omega (arith, e, pair_second bx by f, precision_two by b.course.ordered.second))

-- ---- a lead

above_power : (H P Q v b B : ℕ) → H ≡ b * P + v → b ≡ 1 → P ≡ B * Q → 0 < Q → 2 ≤ B → Q < H
above_power H P Q v b B h e t q l =
    let g : b * P ≡ 1 * P = ap (λ (n : ℕ). n * P) e in
    let m : 2 * Q ≤ B * Q = mul-le-mul_right Q l in
    omega arith

module _ (w : Window) (target : List ℕ) (some : 0 < length target) where
  abbrev B : ℕ
  B = 2 ^ 64

  pub top_power : 2 ^ (64 * length target) ≡ 2 ^ 64 * 2 ^ (64 * (length target - 1))
  top_power = ap (λ (n : ℕ). 2 ^ n) (omega arith) ∙ pow-add 2 64 (64 * (length target - 1))

  pub head_is : w.filled ≡ length target → head_of w target ≡ bit w.carry * 2 ^ (64 * length target) + value_of target
  unfolding head_of
  head_is f = let z : length target - length target ≡ 0 = omega arith in rw (f, z) refl

  pub carry_leads : w.carry ≡ true → w.filled ≡ length target → 2 ^ (64 * (length target - 1)) < head_of w target
  carry_leads c f = above_power (head_of w target) (2 ^ (64 * length target)) (2 ^ (64 * (length target - 1))) (value_of target) (bit w.carry) (2 ^ 64) (head_is f) (ap bit c ∙ (unfold bit in refl)) top_power (pow_pos (64 * (length target - 1))) (omega arith)

  pub limb_leads : ltb 1 (get_or target (length target - 1) 0) ≡ true → w.filled ≡ length target → 2 ^ (64 * (length target - 1)) < head_of w target
  limb_leads h f =
      let t = ltb-true 1 (get_or target (length target - 1) 0) h in
      let s = value_split B (length target - 1) target in
      let d = value_drop B (length target - 1) target in
      let p = base_pow (length target - 1) in
      omega (
        arith,
        head_is f,
        s,
        ap (λ (n : ℕ). n * value_in B (drop (length target - 1) target)) p,
        ap (λ (n : ℕ). 2 ^ (64 * (length target - 1)) * n) d,
        mul-le-mul_left (2 ^ (64 * (length target - 1))) t,
        pow_pos (64 * (length target - 1)),
      )

-- ---- what the code fills

pub not_true : (b : Bool) → not b ≡ false → b ≡ true
not_true true e = refl
not_true false e = absurd (true≢false e)

pub reached_second : (last second gap : ℕ) → second ≤ 2 ^ 20 → leb (64 * (last + 1)) (64 * second + gap) ≡ true → (second ≤ 2 ^ 20) × (64 * last ≤ 64 * second + gap)
reached_second last second gap h e = (h, omega (arith, leb-true (64 * (last + 1)) (64 * second + gap) e))

pub some_of : (n : ℕ) → (n ≡ 0 → ⊥) → 0 < n
some_of zero h = absurd (h refl)
some_of (suc n) h = omega arith

module _ (pair : Pair) (first second : List ℕ) (from n : ℕ) (s : Sighted pair (length first) from n) (q : Prompt pair (length first) (length second) from n) where
  pub at_leap : Leap from (from + n - 1) n
  at_leap = record { some = s.some; room = omega (arith, s.some); few = omega (arith, s.first_few, q.first_long) }

  pub at_none : pair.same ≡ true → Leap 0 (from + n - 1) n
  at_none e = record { some = s.some; room = omega (arith, s.some, s.sum e); few = omega (arith, s.first_few, q.first_long) }

  pub within_first : Within (from + n - 1) 0 first
  within_first = record { columns = omega (arith, q.first_long); limbs = s.first_few; near = omega arith }

  pub within_second : 0 < pair.second → Within (from + n - 1) pair.gap second
  within_second h = record { columns = (q.second_long h).1; limbs = (q.second_long h).0; near = s.gap }

  pub last_place : from + n ≡ from + n - 1 + 1
  last_place = omega (arith, s.some)

cond_false : (b : Bool) → b ≡ false → (m n : ℕ) → cond b m n ≡ n
cond_false b e m n = rw e refl

module _ (x y : Operand) (from n : ℕ) (course : Course x y from) (pair : Pair) (pair_is : pair ≡ pair_of x y) (last : ℕ) (places : from + n ≡ last + 1) (before after : List ℕ) (w : Window) where
  told : (D : ℕ) → D ≡ read_sum x y (from + n) → Leapt from (last + 1) D before after w → Leapt from (from + n) (read_sum x y (from + n)) before after w
  told D e l = rw places (subst (λ (m : ℕ). Leapt from (last + 1) m before after w) (e ∙ ap (read_sum x y) places) l)

  from_none : pair.same ≡ true → from ≡ 0
  from_none e = course.sum (rw pair_is at e)

  pub filled_alone : (first : List ℕ) → pair.second ≡ 0 → pair.same ≡ true → first ≡ x.limbs → Leapt 0 (last + 1) (read_to (last + 1) 0 first) before after w → Leapt from (from + n) (read_sum x y (from + n)) before after w
  unfolding second_read
  filled_alone first z s f l = told (read_to (last + 1) 0 first) value (rw (from_none s) l)
    where
      zero? : (b : Bool) → y.is_zero ≡ b → b ≡ true
      zero? true e = refl
      zero? false e = absurd (omega (arith, rw pair_is at z, pair_second x y e, precision_two y course.ordered.second))

      value : read_to (last + 1) 0 first ≡ read_sum x y (from + n)
      value =
          rw (f, places) (sym (sum_is x y (last + 1) course.ordered (last + 1) (rw pair_is at s) ∙ ap (λ (m : ℕ). read_to (last + 1) 0 x.limbs + m) (rw (zero? y.is_zero refl) refl) ∙ flat (read_to (last + 1) 0 x.limbs)))
        where
          flat : (m : ℕ) → m + 0 ≡ m
          flat m = omega arith

  module _ (first second : List ℕ) (some : 0 < pair.second) (f : first ≡ x.limbs) (g : y.is_zero ≡ false → second ≡ y.limbs) where
    regular_other : y.is_zero ≡ false
    regular_other = go y.is_zero refl
      where
        go : (b : Bool) → y.is_zero ≡ b → b ≡ false
        go true e = absurd (omega (arith, rw pair_is at some, alone_second x y e))
        go false e = refl

    second_at : (j : ℕ) → second_read x y j ≡ read_to j pair.gap second
    unfolding second_read
    second_at j = cond_false y.is_zero regular_other 0 (read_to j (pair_of x y).gap y.limbs) ∙ ap (λ (q : Pair). read_to j q.gap y.limbs) (sym pair_is) ∙ ap (read_to j pair.gap) (sym (g regular_other))

    pub filled_sum : pair.same ≡ true → Leapt 0 (last + 1) (read_to (last + 1) 0 first + read_to (last + 1) pair.gap second) before after w → Leapt from (from + n) (read_sum x y (from + n)) before after w
    filled_sum s l =
        told (read_to (last + 1) 0 first + read_to (last + 1) pair.gap second)
        (rw places (sym (sum_is x y (last + 1) course.ordered (last + 1) (rw pair_is at s) ∙ ap (λ (m : ℕ). read_to (last + 1) 0 x.limbs + m) (second_at (last + 1)) ∙ ap (λ (q : List ℕ). read_to (last + 1) 0 q + read_to (last + 1) pair.gap second) (sym f))))
        (rw (from_none s) l)

    pub filled_difference : 0 < n → pair.same ≡ false
        → (read_to from pair.gap second ≡ read_to from 0 first → read_to (last + 1) pair.gap second ≤ read_to (last + 1) 0 first → Leapt from (last + 1) (read_to (last + 1) 0 first - read_to (last + 1) pair.gap second) before after w)
        → Leapt from (from + n) (read_sum x y (from + n)) before after w
    filled_difference N s l =
        told (read_to (last + 1) 0 first - read_to (last + 1) pair.gap second)
        (rw (places, f, g regular_other, pair_is) (sym (difference_is x y (last + 1) course.ordered (last + 1) unlike)))
        (l (rw (f, g regular_other, pair_is) (course.level unlike)) (rw (f, g regular_other, pair_is) (under (subst (Leads x y) place (leads_later x y (suc from) (n - 1) course.larger) unlike))))
      where
        unlike : (pair_of x y).same ≡ false
        unlike = rw pair_is at s

        place : suc from + (n - 1) ≡ last + 1
        place = omega arith

        under : {m i : ℕ} → m < i → m ≤ i
        under h = omega arith

-- ---- the walk begins with a full target

module _ (p : ℕ) (pair : Pair) (first second : List ℕ) (from : ℕ) (before after : List ℕ) (room : Room p (length before)) (prompt : Prompt pair (length first) (length second) from (length before)) (w : Window)
    (filled : (x y : Operand) → Course x y from → pair ≡ pair_of x y → first ≡ x.limbs → (y.is_zero ≡ false → second ≡ y.limbs) → Leapt from (from + length before) (read_sum x y (from + length before)) before after w)
    (toward : code.Way) (b : Begun toward pair first second from) where
  after_size : length after ≡ length before
  after_size = (filled b.larger b.other b.course b.held.pair_is b.held.first_is b.held.second_is).same_length

  pub after_room : Room p (length after)
  after_room = room_kept p (length before) (length after) after_size room

  pub after_some : 0 < length after
  after_some = room_some p (length after) after_room

module _ (p : ℕ) (pair : Pair) (first second : List ℕ) (from : ℕ) (before after : List ℕ) (room : Room p (length before)) (prompt : Prompt pair (length first) (length second) from (length before)) (w : Window)
    (filled : (x y : Operand) → Course x y from → pair ≡ pair_of x y → first ≡ x.limbs → (y.is_zero ≡ false → second ≡ y.limbs) → Leapt from (from + length before) (read_sum x y (from + length before)) before after w)
    (ahead : w.filled ≡ length after → 2 ^ (64 * (length after - 1)) < head_of w after) where
  module _ (o : Mode) (x y : Operand) (toward : code.Way) (held : Held o x y toward pair first second) (course : Course x y from) where
    leapt : Leapt from (from + length before) (read_sum x y (from + length before)) before after w
    leapt = filled x y course held.pair_is held.first_is held.second_is

    pub reached : Reached x y w after (from + length after)
    unfolding limbs_for most_precision
    reached =
        rw leapt.same_length
        (record {
          ordered = course.ordered;
          leads = subst (Leads x y) place (leads_later x y (suc from) (length before - 1) course.larger);
          some = omega (arith, room_some p (length before) room);
          near = omega (arith, prompt.first_long, ap length held.first_is, course.ordered.first.count, course.ordered.first.most, deepest_today);
          sum = λ e. leapt.same_skip ∙ course.sum e;
          shows = leapt.shows (rw (columns, leapt.value) (rw leapt.same_length at (ahead leapt.full)));
        })
      where
        place : suc from + (length before - 1) ≡ from + length before
        place = omega (arith, room_some p (length before) room)

        columns : from + length before - from - 1 ≡ length before - 1
        columns = omega arith

    pub before_open : 1 < from + length after → decide_at o p x y (from + length after - 1) ≡ false
    before_open h = subst (λ (m : ℕ). decide_at o p x y m ≡ false) place (prompt_open o p x y from course before room mine (omega (arith, leapt.same_length, room_some p (length before) room)))
      where
        place : from + (length before - 1) ≡ from + length after - 1
        place = omega (arith, leapt.same_length, room_some p (length before) room)

        mine : Prompt (pair_of x y) (length x.limbs) (length y.limbs) from (length before)
        mine = record {
          first_long = rw held.first_is at prompt.first_long;
          second_long = λ h. long h;
          inland = rw held.pair_is at prompt.inland;
        }
          where
            long : 0 < (pair_of x y).second → (length y.limbs ≤ 2 ^ 20) × (64 * (from + length before - 1) ≤ 64 * length y.limbs + (pair_of x y).gap)
            long h = go y.is_zero refl
              where
                go : (z : Bool) → y.is_zero ≡ z → (length y.limbs ≤ 2 ^ 20) × (64 * (from + length before - 1) ≤ 64 * length y.limbs + (pair_of x y).gap)
                go true e = absurd (omega (arith, h, alone_second x y e))
                go false e = rw (held.second_is e, held.pair_is) at (prompt.second_long (rw held.pair_is h))

    pub arriving : Arriving p toward pair first second w after (from + length after)
    arriving = record { mode = o; larger = x; other = y; held = held; reached = reached }

-- ---- it goes on, or has stopped

module _ (p : ℕ) (toward : code.Way) (pair : Pair) (first second : List ℕ) (w : Window) (target : List ℕ) (k : ℕ) (room : Room p (length target)) (v : Verdict)
    (told : (o : Mode) (x y : Operand) → Held o x y toward pair first y.limbs → Reached x y w target k → Judged o p x y k v) where
  pub on_going : open? v ≡ true → (o : Mode) (x y : Operand) → Held o x y toward pair first second → Reached x y w target k → Going o p x y w target k
  on_going e o x y h r = goes_on o p x y w target k v room r (told o x y (held_first o x y toward pair first second h) r) e

  pub on_underway : open? v ≡ true → Arriving p toward pair first second w target k → Underway p toward pair first second w target k
  on_underway e a = record { mode = a.mode; larger = a.larger; other = a.other; held = a.held; going = on_going e a.mode a.larger a.other a.held a.reached }

  pub on_stopped : open? v ≡ false → (o : Mode) (x y : Operand) → Held o x y toward pair first second → Reached x y w target k → (1 < k → decide_at o p x y (k - 1) ≡ false)
      → Stopped o p x y (record { window = w; columns = k; verdict = v }) target
  on_stopped e o x y h r u =
      stops o p x y w target k v room r (told o x y (held_first o x y toward pair first second h) r) (k - 1) (omega (arith, r.some)) (λ j. u (omega arith)) e

pub arriving_arrived : (p : ℕ) (toward : code.Way) (pair : Pair) (first second : List ℕ) (w : Window) (target : List ℕ) (k : ℕ) → Arriving p toward pair first second w target k → Arrived toward pair first w target k
arriving_arrived p toward pair first second w target k a =
    record { mode = a.mode; larger = a.larger; other = a.other; held = held_first a.mode a.larger a.other toward pair first second a.held; reached = a.reached }
