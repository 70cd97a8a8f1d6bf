-- Operands of one exponent and n limbs: n columns are all that there is, one fewer fixes nothing, and what is read is the sum. Assumes nothing.
use mathlib.Core.Path.{◌≡◌, refl, sym, ap, ◌∙◌, subst}
use mathlib.Core.Bool.{Bool, true, false, ◌&&◌, true≢false}
use mathlib.Core.List.{List}
use Prim.Native.Nat.{ℕ, suc, ◌+◌, ◌-◌, ◌*◌, ◌/◌, ◌^◌, ◌≤◌, ◌<◌}
use native.Mathlib.Decide.{dec_le}
use native.Mathlib.Nat.{pow-succ'}
use native.Mathlib.Omega.{arith}
use borrow.Author.Tests.{le-leb, lt-leb}
use lib.Dec.{leb}
use lib.ListN.{length, replicate, length-replicate}
use lib.Ieee.{size}
use lib.Ieee.Digits.{size-le}
use Rattle.limb.specs.Carry.{bit}
use Rattle.numbers.specs.Limits.{most_precision, limbs_for}
use Rattle.numbers.specs.Operand.{Operand}
use Rattle.numbers.proofs.Digits.{precision_two}
use Rattle.numbers.proofs.Limits.{limbs_hold, limbs_fewest}
use Rattle.rounding.specs.Mode.{way}
use Rattle.rounding.specs.declared.Mode.{Mode}
use Rattle.rounding.specs.Answer.{rounded}
use Rattle.rounding.specs.Sum.{add}
use Rattle.depth.specs.Bound.{deepest}
use Rattle.depth.specs.Columns.{top_exponent}
use Rattle.decide.specs.Decide.{decide_at}
use Rattle.decide.proofs.Decision.{depth_decided}
use Rattle.place.specs.declared.Placed.{Placed}
use Rattle.reports.specs.Counts.{used_of}
use Rattle.reports.specs.Signed.{Signed}
use Rattle.reports.proofs.Counts.{used_all, used_is}
use Rattle.columns.specs.Column.{read_to}
use Rattle.columns.proofs.Reading.{read_lt}
use Rattle.settle.specs.Rows.{row_of}
use Rattle.settle.specs.declared.rows.Pair.{Pair}
use Rattle.settle.specs.declared.rows.Row.TheVariants.{Exact}
use Rattle.bridge.specs.Verdict.{pair_of, Ordered, Leads, read_sum, settled_by, more_of, verdict}
use Rattle.bridge.proofs.Told.{pair_first, pair_second, pair_gap, pair_top, top_is}
use Rattle.bridge.proofs.Decision.{decision}
use Rattle.bridge.proofs.Covered.{columns_above}
use Rattle.bridge.proofs.Theorems.{leads_later, row_sum}
use Rattle.checks.specs.Room.{Room}
use Rattle.descent.specs.Course.{Course}
use Rattle.descent.proofs.GoingOn.{sum_below, difference_is}
use Rattle.descent.proofs.GoingDown.{room_some, open_before}
use Rattle.descent.proofs.JudgingRange.{digits_some}
use Rattle.descent.proofs.AtOnce.{inland_sooner}
use Rattle.descent.proofs.RegularEnd.{deep_enough}
use Rattle.descent.specs.Finishing.{Left}
use Rattle.wide.specs.Attempted.{Attempted}
use Rattle.wide.proofs.Unread.{row_read}
use Rattle.wide.proofs.Level.{short_open}
use Rattle.aligned.specs.Aligned.{Aligned, Covered}

module _ (x y : Operand) (n : ℕ) (a : Aligned x y n) where
  pub no_gap : (pair_of x y).gap ≡ 0
  no_gap = pair_gap x y a.second_regular ∙ go x.exponent y.exponent a.even
    where
      go : (m i : ℕ) → i ≡ m → m - i ≡ 0
      go m i e = omega arith

  first_held : x.precision ≤ 64 * n
  first_held = rw (sym a.first.count ∙ a.first_limbs) at (limbs_hold x.precision)

  second_held : y.precision ≤ 64 * n
  second_held = rw (sym a.second.count ∙ a.second_limbs) at (limbs_hold y.precision)

  first_needs : 64 * n < x.precision + 64
  first_needs = rw (sym a.first.count ∙ a.first_limbs) at (limbs_fewest x.precision)

  second_some : 0 < (pair_of x y).second
  second_some = omega (arith, pair_second x y a.second_regular, precision_two y a.second)

  -- all is read of both
  pub row : row_of (pair_of x y) n ≡ Exact
  row = row_read (pair_of x y) n second_some (rw (le-leb (pair_of x y).first (64 * n) (omega (arith, pair_first x y, first_held)), le-leb ((pair_of x y).gap + (pair_of x y).second) (64 * n) (omega (arith, no_gap, pair_second x y a.second_regular, second_held))) refl)

-- n columns use n limbs of an operand that begins at the top
pub used : (w : Operand) (n : ℕ) → 0 < n → length w.limbs ≡ n → n ≡ used_of n 0 (length w.limbs)
used w n h e = rw e (used_all n 0 n (omega arith) (whole n))
  where
    whole : (m : ℕ) → m ≤ (64 * m - 0 + 63) / 64
    whole m = omega arith

-- n columns, in which all is read of both; they are alike in the first z
module _ (o : Mode) (p : ℕ) (P : 0 < p) (x y : Operand) (n z : ℕ) (a : Aligned x y n) (course : Course x y z) (within : z < n) (few : n ≤ 64) where
  abbrev in_order : Ordered x y
  in_order = course.ordered

  columns_some : 1 ≤ n
  columns_some = omega arith

  pub columns_near : n ≤ deepest
  columns_near = omega (arith, deep_enough)

  pub leads_after : (k : ℕ) → z < k → Leads x y k
  leads_after k h = subst (Leads x y) places (leads_later x y (suc z) (k - suc z) course.larger)
    where
      places : suc z + (k - suc z) ≡ k
      places = omega arith

  all_fixed : decide_at o p x y n ≡ true
  unfolding verdict
  all_fixed = decision o p P x y n in_order columns_some (leads_after n within) ∙ ap (verdict o p x y n) (row x y n a)

  pub all_answer : add o p x y ≡ rounded (way o x.negative) p (x.exponent - 64 * n - 1) x.negative (2 * read_sum x y n + bit false)
  unfolding settled_by more_of
  all_answer = row_sum o p P x y n in_order columns_some (leads_after n within) Exact (row x y n a) (columns_above x a.first a.first_regular n (omega (arith, columns_near))) refl

  -- what is told of them, where one column fewer fixes nothing
  pub all_told : (1 < n → decide_at o p x y (n - 1) ≡ false) → {exit : List ℕ} {negative : Bool} {placed : Placed} → Left p (add o p x y) exit placed → Signed negative (add o p x y) → Attempted o p x y exit negative placed n n n
  all_told first left sign =
      let top_told : top_exponent x y ≡ x.exponent = top_is o p P x y 1 in_order (omega arith) in
      record {
        decides = record { zeros = λ h. absurd (true≢false (sym h ∙ rw a.first_regular refl)); deciding = λ h. depth_decided o p P x y a.first a.second n columns_some all_fixed first };
        bounded = columns_near;
        left = left;
        signed = sign;
        first_used = used x n columns_some a.first_limbs ∙ used_is x (top_exponent x y) n 0 a.first a.first_regular (rw top_told (apart x.exponent x.exponent refl));
        second_used = used y n columns_some a.second_limbs ∙ used_is y (top_exponent x y) n 0 a.second a.second_regular (rw top_told (apart x.exponent y.exponent a.even));
      }
    where
      apart : (m i : ℕ) → i ≡ m → 0 ≡ m - i
      apart m i h = omega arith

module _ (o : Mode) (p : ℕ) (x y : Operand) (n z top : ℕ) (s : Covered p x y n z top) where
  abbrev a : Aligned x y n
  a = s.aligned

  abbrev course : Course x y z
  course = s.course

  abbrev d : Ordered x y
  d = course.ordered

  P : 0 < p
  P = digits_some p n s.room

  pub some : 1 ≤ n
  some = room_some p n s.room

  pub limbs_few : n ≤ 64
  unfolding limbs_for most_precision
  limbs_few = omega (arith, s.room.count, s.room.most)

  pub near : n ≤ deepest
  near = columns_near o p P x y n z a course s.within limbs_few

  pub leads_all : Leads x y n
  leads_all = leads_after o p P x y n z a course s.within limbs_few n s.within

  pub answer : add o p x y ≡ rounded (way o x.negative) p (x.exponent - 64 * n - 1) x.negative (2 * read_sum x y n + bit false)
  answer = all_answer o p P x y n z a course s.within limbs_few

  -- ---- one column fewer

  module _ (more : 1 < n) where
    abbrev k : ℕ
    k = n - 1

    abbrev q : Pair
    q = pair_of x y

    K : 1 ≤ k
    K = omega arith

    digits_asked : 64 * k < p
    unfolding limbs_for
    digits_asked = omega (arith, s.room.count)

    unread : (leb q.first (64 * k) && leb (q.gap + q.second) (64 * k)) ≡ false
    unread = rw (lt-leb q.first (64 * k) (omega (arith, pair_first x y, first_needs x y n a))) refl

    above : 64 * k ≤ q.top
    above = omega (arith, pair_top x y, columns_above x a.first a.first_regular n (omega (arith, near)))

    short : size (read_sum x y k) ≤ p
    short = go q.same refl
      where
        go : (b : Bool) → q.same ≡ b → size (read_sum x y k) ≤ p
        go true e =
            let back : suc (k - 1) ≡ k = omega arith in
            let below : read_sum x y k < 2 ^ suc (64 * k) = rw (pow-succ' 2 (64 * k)) (subst (λ (m : ℕ). read_sum x y m < 2 * 2 ^ (64 * m)) back (sum_below x y (k - 1) d e)) in
            omega (arith, size-le (read_sum x y k) (suc (64 * k)) below, digits_asked)
        go false e =
            let below : read_sum x y k < 2 ^ (64 * k) = rw (difference_is x y k d k e) (less (read_to k 0 x.limbs) (read_to k q.gap y.limbs) (2 ^ (64 * k)) (read_lt 0 x.limbs a.first.limb k)) in
            omega (arith, size-le (read_sum x y k) (64 * k) below, digits_asked)
          where
            less : (i j m : ℕ) → i < m → i - j < m
            less i j m h = omega arith

    parted_open : z < k → decide_at o p x y k ≡ false
    parted_open h = short_open o p P x y k d K (leads_after o p P x y n z a course s.within limbs_few k h) a.second_regular above (inland_sooner q n k (omega arith) s.inland) (omega (arith, no_gap x y n a)) unread short

  pub first : 1 < n → decide_at o p x y (n - 1) ≡ false
  first more = elim (dec_le (n - 1) z) [
    | yes h ↦ let e : z ≡ n - 1 = omega arith in subst (λ (m : ℕ). decide_at o p x y m ≡ false) e (open_before o p x y z course (replicate n 0) (subst (Room p) (sym (length-replicate n 0)) s.room) (omega arith))
    | no h ↦ parted_open more (omega arith)
  ]

  -- ---- what is told of it

  pub covered_told : {exit : List ℕ} {negative : Bool} {placed : Placed} → Left p (add o p x y) exit placed → Signed negative (add o p x y) → Attempted o p x y exit negative placed n n n
  covered_told left sign = all_told o p P x y n z a course s.within limbs_few first left sign
