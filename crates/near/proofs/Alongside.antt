-- Two operands of as many limbs as the target, less than a limb apart: what one walk leaves in it is what is read of them, alone or with the guard, and no fewer columns fix the answer. Assumes nothing.
use mathlib.Core.Path.{◌≡◌, refl, sym, ap, ◌∙◌, subst}
use mathlib.Core.Logic.{inl, inr}
use mathlib.Core.Bool.{Bool, true, false, cond, true≢false}
use mathlib.Core.List.{List}
use Rattle.std.specs.Prelude.{Some}
use Prim.Native.Nat.{ℕ, min, ◌+◌, ◌-◌, ◌*◌, ◌/◌, ◌%◌, ◌^◌, ◌≤◌, ◌<◌}
use native.Mathlib.Omega.{arith}
use borrow.Author.Tests.{lt-leb}
use lib.ListN.{length, get_or}
use Rattle.limb.specs.Value.{value_of, Below}
use Rattle.limb.specs.Carry.{bit}
use Rattle.numbers.specs.Limits.{most_precision, limbs_for}
use Rattle.numbers.specs.Operand.{Operand}
use Rattle.rounding.proofs.Order.{le_or_lt}
use Rattle.rounding.specs.declared.Mode.TheVariants.{Nearest}
use Rattle.depth.specs.Depth.{plus, Fixed}
use Rattle.depth.proofs.Least.{fixed_more}
use Rattle.decide.specs.Decide.{decide_at}
use Rattle.decide.proofs.Pair.{Decides}
use Rattle.decide.proofs.Decision.{decides_fixed}
use Rattle.reports.specs.Counts.{used_of}
use Rattle.columns.specs.Column.{read_to}
use Rattle.leap.specs.Leap.{Leap, Leapt, leapt_to}
use Rattle.leap.proofs.Leaping.{leapt}
use Rattle.settle.specs.declared.rows.Pair.{Pair}
use Rattle.bridge.specs.Verdict.{pair_of, read_sum}
use Rattle.bridge.proofs.Told.{alone_second}
use Rattle.checks.specs.Room.{Room}
use Rattle.descent.specs.Course.{Inland, Prompt}
use Rattle.descent.proofs.GoingDown.{room_some}
use Rattle.descent.proofs.JudgingRange.{digits_some}
use Rattle.descent.proofs.AtOnce.{inland_sooner, prompt_open}
use Rattle.wide.specs.declared.filling.Filled.{Filled}
use Rattle.wide.specs.Filling.{Holding, Offered, Rounds, Fills, Promptly}
use Rattle.wide.specs.Guarding.{Spent, Guards}
use Rattle.wide.proofs.GuardBelow.{read_held, leads_held}
use Rattle.near.specs.Abreast.{Abreast, Moved, Guarding}
use Rattle.near.proofs.Moving.{read_moved, read_below, read_unmoved, read_unmoved_past}

one_at_most : (c : Bool) → bit c ≤ 1
unfolding bit
one_at_most true = omega arith
one_at_most false = omega arith

module _ (p : ℕ) (pair : Pair) (first second before : List ℕ) (room : Room p (length before)) (beside : Abreast pair first second (length before)) (inland : Inland pair (length before)) where
  abbrev n : ℕ
  n = length before

  abbrev gap : ℕ
  gap = pair.gap

  some : 0 < n
  some = room_some p n room

  few : n ≤ 2 ^ 20
  unfolding limbs_for most_precision
  few = omega (arith, room.count, room.most)

  prompt : Prompt pair (length first) (length second) 0 n
  prompt =
      record {
        first_long = omega (arith, beside.first_long);
        second_long = λ s. (omega (arith, few, beside.second_long), omega (arith, beside.second_long));
        inland = inland_sooner pair n _ (omega arith) inland;
      }

  -- ---- what is read of them

  module _ (x y : Operand) (h : Holding x y pair first second) where
    limbs : Below (2 ^ 64) second
    limbs = subst (Below (2 ^ 64)) (sym h.second_is) h.course.ordered.second.limb

    lead : (j : ℕ) → 1 ≤ j → pair.same ≡ false → read_to j gap second < read_to j 0 first
    lead j J e = rw (h.first_is, h.second_is, h.pair_is) (leads_held x y pair first second h j J (rw h.pair_is at e))

    mine : Prompt (pair_of x y) (length x.limbs) (length y.limbs) 0 n
    mine = rw (h.pair_is, h.first_is, h.second_is) at prompt

    abbrev a : ℕ
    a = value_of first

    abbrev s : ℕ
    s = value_of second / 2 ^ gap

    -- by as many columns as fill the target
    first_read : read_to n 0 first ≡ a
    first_read = read_unmoved first n beside.first_long

    second_read : read_to n gap second ≡ s
    second_read = read_moved gap beside.close second n beside.second_long

    whole : (after : List ℕ) (carry : Bool) → Moved pair.same a s false n after carry → read_sum x y n ≡ bit carry * 2 ^ (64 * length after) + value_of after
    whole after carry m = read_held x y pair first second h n ∙ rw (first_read, second_read, m.size) (go pair.same refl)
      where
        none : bit false ≡ 0
        none = unfold bit in refl

        go : (b : Bool) → pair.same ≡ b → cond b (a + s) (a - s) ≡ bit carry * 2 ^ (64 * n) + value_of after
        go true e = omega (arith, m.sum e)
        go false e =
            let l : s < a = rw (first_read, second_read) at (lead n some e) in
            let d = m.difference e (omega (arith, none)) in
            rw (d.0, none) (less (value_of after) (2 ^ (64 * n)) d.1)
          where
            less : (v P : ℕ) → v + s + bit false ≡ a → a - s ≡ 0 * P + v
            less v P e = omega (arith, none)

    -- and by one more
    abbrev b : ℕ
    b = get_or second 0 0 * 2 ^ (64 - gap) % 2 ^ 64

    first_past : read_to (n + 1) 0 first ≡ a * 2 ^ 64
    first_past = read_unmoved_past first n beside.first_long

    second_past : read_to (n + 1) gap second ≡ s * 2 ^ 64 + b
    second_past = read_below gap beside.close second n beside.second_long limbs

    past : (after : List ℕ) (carry : Bool) (guard : ℕ) (borrow : Bool) → carry ≡ false → Moved pair.same a s borrow n after carry → Guarding pair.same b guard borrow → read_sum x y (n + 1) ≡ value_of after * 2 ^ 64 + guard
    past after carry guard borrow off m f = read_held x y pair first second h (n + 1) ∙ rw (first_past, second_past) (go pair.same refl)
      where
        none : bit carry ≡ 0
        none = ap bit off ∙ (unfold bit in refl)

        sum_of : (u v b P c : ℕ) → v + P * c ≡ a + u → c ≡ 0 → guard ≡ b → a * 2 ^ 64 + (u * 2 ^ 64 + b) ≡ v * 2 ^ 64 + guard
        sum_of u v b P c e z g = let w : v + P * 0 ≡ a + u = rw z at e in omega arith

        difference_of : (u v b c : ℕ) → v + u + c ≡ a → guard + b ≡ 2 ^ 64 * c → a * 2 ^ 64 - (u * 2 ^ 64 + b) ≡ v * 2 ^ 64 + guard
        difference_of u v b c e g = omega arith

        go : (q : Bool) → pair.same ≡ q → cond q (a * 2 ^ 64 + (s * 2 ^ 64 + b)) (a * 2 ^ 64 - (s * 2 ^ 64 + b)) ≡ value_of after * 2 ^ 64 + guard
        go true e = sum_of s (value_of after) b (2 ^ (64 * n)) (bit carry) (m.sum e) none (f.sum e)
        go false e =
            let l : s * 2 ^ 64 + b < a * 2 ^ 64 = rw (first_past, second_past) at (lead (n + 1) (omega arith) e) in
            difference_of s (value_of after) b (bit borrow) (m.difference e (omega (arith, one_at_most borrow))).1 (f.difference e)

  -- ---- as the glance asks

  pub promptly : (after : List ℕ) (carry : Bool) → 0 < pair.second → Moved pair.same (value_of first) (value_of second / 2 ^ gap) false n after carry → Promptly pair first second before after (leapt_to 0 carry (length after)) carry
  promptly after carry two m =
      record {
        prompt = prompt;
        filled = λ x y course pe fe se. let r = regular y.is_zero x y refl pe in filled x y (record { course = course; regular = r; pair_is = pe; first_is = fe; second_is = se r });
        size = m.size;
        carry_is = unfold leapt_to in refl;
      }
    where
      regular : (z : Bool) (x y : Operand) → y.is_zero ≡ z → pair ≡ pair_of x y → y.is_zero ≡ false
      regular false x y e q = e
      regular true x y e q = absurd (omega (arith, two, ap (λ (t : Pair). t.second) q, alone_second x y e))

      places : n - 1 + 1 ≡ 0 + n
      places = omega (arith, some)

      leap : Leap 0 (n - 1) n
      leap = record { some = some; room = omega (arith, some); few = omega (arith, few) }

      start : 0 + n ≡ n
      start = omega arith

      filled : (x y : Operand) → Holding x y pair first second → Leapt 0 (0 + n) (read_sum x y (0 + n)) before after (leapt_to 0 carry (length after))
      filled x y h = subst (λ (k : ℕ). Leapt 0 k (read_sum x y (0 + n)) before after (leapt_to 0 carry (length after))) places
          (leapt 0 (n - 1) before after leap m.size (read_sum x y (0 + n)) carry (leapt_to 0 carry (length after)) refl (ap (read_sum x y) start ∙ whole x y h after carry m))

  pub guards : (after : List ℕ) (carry : Bool) (guard : ℕ) (borrow : Bool) → carry ≡ false → Moved pair.same (value_of first) (value_of second / 2 ^ gap) borrow n after carry
      → Guarding pair.same (get_or second 0 0 * 2 ^ (64 - gap) % 2 ^ 64) guard borrow → Spent p pair n → Guards p pair first second after guard
  guards after carry guard borrow off m f spent =
      record { spent = rw m.size spent; inland = rw m.size inland; value = λ x y h. rw m.size (past x y h after carry guard borrow off m f) }

  -- ---- the depth

  module _ (offered : Offered pair first second) (after : List ℕ) (r : Filled) (fills : Fills p pair first second after (Some r)) where
    abbrev x : Operand
    x = offered.larger

    abbrev y : Operand
    y = offered.other

    abbrev h : Holding x y pair first second
    h = offered.holding

    rounds : Rounds Nearest p x y after r.carry r.guard r.more r.depth
    rounds = fills Nearest x y h

    fixed_at : (k : ℕ) → 1 ≤ k → Decides (decide_at Nearest p x y k) (Fixed plus Nearest p x y k)
    fixed_at k K = decides_fixed Nearest p (digits_some p n room) x y h.course.ordered.first h.course.ordered.second k K

    -- one column fewer than fill the target fixes nothing
    short : r.depth < n → ⊥
    short l = true≢false (sym ((fixed_at k (omega (arith, rounds.some))).complete (fixed_more plus Nearest p x y r.depth k (omega arith) ((fixed_at r.depth rounds.some).sound rounds.fixed))) ∙ prompt_open Nearest p x y 0 h.course before room (mine x y h) (omega (arith, rounds.some)))
      where
        k : ℕ
        k = 0 + (n - 1)

    pub deep : n ≤ r.depth
    deep = elim (le_or_lt n r.depth) [ inl l ↦ l | inr l ↦ absurd (short l) ]

-- ---- what the code tells

-- all limbs are used
pub all_used : (k gap m n : ℕ) (l : List ℕ) → gap < 64 → 0 < n → n ≤ k → m ≡ n → length l ≡ n → m ≡ used_of k gap (length l)
unfolding used_of
all_used k gap m n l close some deep e f = rw (e, f, lt-leb (64 * k) gap (omega arith)) (go n k gap close deep)
  where
    go : (n k gap : ℕ) → gap < 64 → n ≤ k → n ≡ min n ((64 * k - gap + 63) / 64)
    go n k gap c d = omega arith

-- in either order
pub used_alike : (s : Bool) {n m k : ℕ} → n ≡ m → n ≡ k → (cond s n n ≡ m) × (cond s n n ≡ k)
used_alike true e f = (e, f)
used_alike false e f = (e, f)
