-- What a walk's end gives to report, of a regular number and a zero and of two in order. Assumes nothing.
use mathlib.Core.Path.{◌≡◌, refl, sym, ap, ◌∙◌, subst}
use mathlib.Core.Bool.{true, false, not, cond, beq, true≢false}
use mathlib.Core.List.{List}
use Prim.Native.Nat.{ℕ, ◌-◌, ◌^◌, ◌≤◌, zero-le}
use native.Mathlib.Omega.{arith}
use lib.ListN.{length}
use Rattle.depth.proofs.Place.{top_ordered}
use Rattle.numbers.specs.Limits.{counted}
use Rattle.numbers.specs.Operand.{Operand, WellFormed, zero_like}
use Rattle.numbers.proofs.Digits.{zero_well_formed}
use Rattle.rounding.specs.Mode.{way}
use Rattle.rounding.specs.declared.Mode.{Mode}
use Rattle.rounding.specs.Answer.{Answer}
use Rattle.rounding.specs.Sum.{add}
use Rattle.depth.specs.Columns.{top_exponent, limbs_used}
use Rattle.depth.specs.Depth.{plus, result, Depth}
use Rattle.checks.specs.declared.Number.{Number}
use Rattle.checks.specs.Number.{operand_of}
use Rattle.place.specs.declared.Placed.{Placed}
use Rattle.place.specs.Placed.{placed_of}
use Rattle.settle.specs.declared.rows.Pair.{Pair}
use Rattle.settle.specs.declared.rows.Way.{Way}
use Rattle.settle.specs.Ways.{theory_way}
use Rattle.bridge.specs.Verdict.{pair_of}
use Rattle.descent.specs.declared.going.Walked.{Walked}
use Rattle.reports.specs.declared.report.Sum.{Sum}
use Rattle.checks.specs.Room.{Room}
use Rattle.descent.specs.Course.{Begun, Course, Stopped}
use Rattle.descent.specs.Finishing.{Ending, Left}
use Rattle.reports.specs.Signed.{Signed}
use Rattle.reports.specs.Ranged.{Ranged}
use Rattle.reports.specs.Counts.{used_of}
use Rattle.reports.specs.Summed.{sum_of, Reported}
use Rattle.reports.proofs.Told.{sum_depth}
use Rattle.reports.proofs.Ranged.{sum_ranged}
use Rattle.reports.proofs.Counts.{used_is}
use Rattle.descent.proofs.Handed.{ordered_pair}
use Rattle.descent.proofs.RegularEnd.{depth_told, signed_told, ending, not_deep}

pub used_zero : (x : Operand) (t k : ℕ) → x.is_zero ≡ true → 0 ≡ limbs_used t k x
unfolding limbs_used
used_zero x t k e = rw e

pub top_single : (x z : Operand) → x.is_zero ≡ false → z.is_zero ≡ true → 0 ≡ top_exponent x z - x.exponent
unfolding top_exponent
top_single x z a b = rw (a, b) (go x.exponent)
  where
    go : (n : ℕ) → 0 ≡ n - n
    go n = omega arith

module _ (mode : Mode) (p n : ℕ) (room : Room p n) (x y : Operand) (from : ℕ) (course : Course x y from) (walked : Walked) (t : List ℕ) (st : Stopped mode p x y walked t) where
  pub reported : {exit : List ℕ} {placed : Placed} {s : Sum} (u v : ℕ) → Left p (add mode p x y) exit placed
      → ((a : Answer) → Signed x.negative a → placed ≡ placed_of a → s ≡ sum_of a p walked.columns u v)
      → u ≡ limbs_used (top_exponent x y) walked.columns x → v ≡ limbs_used (top_exponent x y) walked.columns y
      → Reported plus mode p x y exit s
  unfolding result
  reported {exit} {placed} {s} u v left told a b =
      let e : s ≡ sum_of (add mode p x y) p walked.columns u v = told (add mode p x y) (signed_told mode p n room x y from course walked t st) left.told in
      let k : s.depth ≡ walked.columns = ap (λ (q : Sum). q.depth) e ∙ sum_depth (add mode p x y) p walked.columns u v in
      record {
        depth = subst (λ (j : ℕ). Depth plus mode p x y j) (sym k) (depth_told mode p n room x y from course walked t st);
        bounded = rw k st.near;
        answer = e ∙ rw (a, b, k) refl;
        target = left.limbs;
      }

  pub columns_few : walked.columns ≤ 2 ^ 20
  columns_few = omega (arith, st.near, not_deep)

-- ---- a regular number and a zero

pub single_course : (x z : Operand) → WellFormed x → x.is_zero ≡ false → WellFormed z → z.is_zero ≡ true → Course x z 0
unfolding pair_of
single_course x z g r h e = record {
  ordered = record { first = g; second = h; regular = r; order = λ f. absurd (true≢false (sym e ∙ f)) };
  sum = λ f. refl;
  level = λ f. absurd (true≢false (like ∙ f));
  larger = λ f. absurd (true≢false (like ∙ f));
  near = zero-le;
}
  where
    like : true ≡ cond z.is_zero true (cond x.negative z.negative (not z.negative))
    like = rw e refl

pub single_pair : (x : Number) (xl : List ℕ) (z : Operand) (c : ℕ) → z.is_zero ≡ true → c ≡ counted x.exponent
    → record { same = true; first = x.precision; second = 0; gap = 0; top = c } ≡ pair_of (operand_of x xl) z
unfolding pair_of operand_of
single_pair x xl z c e f = rw (e, f) refl

-- ---- two in order

module _ (x : Number) (xl : List ℕ) (y : Number) (yl : List ℕ) (from c d : ℕ) (ye : (operand_of y yl).is_zero ≡ false) (course : Course (operand_of x xl) (operand_of y yl) from) (f : c ≡ counted x.exponent) (g : d ≡ counted y.exponent) where
  order_is : counted y.exponent ≤ counted x.exponent
  unfolding operand_of
  order_is = course.ordered.order ye

  pub gap_some : d ≤ c
  gap_some = rw (f, g) order_is

  pub first_gap : 0 ≡ top_exponent (operand_of x xl) (operand_of y yl) - (operand_of x xl).exponent
  first_gap = rw (top_ordered (operand_of x xl) (operand_of y yl) course.ordered.regular ye (course.ordered.order ye)) (go (operand_of x xl).exponent)
    where
      go : (n : ℕ) → 0 ≡ n - n
      go n = omega arith

  pub second_gap : c - d ≡ top_exponent (operand_of x xl) (operand_of y yl) - (operand_of y yl).exponent
  unfolding operand_of
  second_gap = rw (f, g, top_ordered (operand_of x xl) (operand_of y yl) course.ordered.regular ye (course.ordered.order ye)) refl

-- ---- as the code finds it

limbs_are : (x : Number) (xl : List ℕ) → xl ≡ (operand_of x xl).limbs
unfolding operand_of
limbs_are x xl = refl

-- the walk of a number alone begins
pub single_begun : (mode : Mode) (x : Number) (xl : List ℕ) (by : Way) (c : ℕ) → WellFormed (operand_of x xl) → (operand_of x xl).is_zero ≡ false → theory_way by ≡ way mode x.negative → c ≡ counted x.exponent
    → Begun by (record { same = true; first = x.precision; second = 0; gap = 0; top = c }) xl xl 0
unfolding operand_of zero_like
single_begun mode x xl by c g r wy ce =
    let none = zero_like (operand_of x xl) in
    record {
      mode = mode;
      larger = operand_of x xl;
      other = none;
      held = record { pair_is = single_pair x xl none c refl ce; first_is = refl; second_is = λ f. absurd (true≢false f); way_is = wy };
      course = single_course (operand_of x xl) none g r (zero_well_formed (operand_of x xl) g) refl;
    }

-- and of two in order
pub ordered_begun : (mode : Mode) (x : Number) (xl : List ℕ) (y : Number) (yl : List ℕ) (from : ℕ) (by : Way) (c d : ℕ) → (operand_of y yl).is_zero ≡ false → Course (operand_of x xl) (operand_of y yl) from
    → theory_way by ≡ way mode x.negative → c ≡ counted x.exponent → d ≡ counted y.exponent
    → Begun by (record { same = beq x.negative y.negative; first = x.precision; second = y.precision; gap = c - d; top = c }) xl yl from
unfolding operand_of
ordered_begun mode x xl y yl from by c d ye course wy ce de =
    record {
      mode = mode;
      larger = operand_of x xl;
      other = operand_of y yl;
      held = record { pair_is = ordered_pair x xl y yl c d ye ce de; first_is = refl; second_is = λ f. refl; way_is = wy };
      course = course;
    }

module _ (mode : Mode) (p : ℕ) (x : Number) (xl : List ℕ) (by : Way) (c : ℕ) (walked : Walked) (entry t : List ℕ)
    (g : WellFormed (operand_of x xl)) (r : (operand_of x xl).is_zero ≡ false) (room : Room p (length entry)) (wy : theory_way by ≡ way mode x.negative) (ce : c ≡ counted x.exponent) (len : length t ≡ length entry)
    (stops : (o : Mode) (u v : Operand) → Course u v 0 → record { same = true; first = x.precision; second = 0; gap = 0; top = c } ≡ pair_of u v → xl ≡ u.limbs → (v.is_zero ≡ false → xl ≡ v.limbs) → theory_way by ≡ way o u.negative → Stopped o p u v walked t) where
  abbrev X : Operand
  X = operand_of x xl

  single_stopped : (z : Operand) → WellFormed z → z.is_zero ≡ true → Stopped mode p X z walked t
  unfolding operand_of
  single_stopped z h e = stops mode X z (single_course X z g r h e) (single_pair x xl z c e ce) (limbs_are x xl) (λ f. absurd (true≢false (sym e ∙ f))) wy

  none : Operand
  none = zero_like X

  none_zero : none.is_zero ≡ true
  unfolding none zero_like
  none_zero = refl

  none_formed : WellFormed none
  unfolding none
  none_formed = zero_well_formed X g

  pub single_ending : Ending p c walked.window t
  single_ending =
      let k = single_course X none g r none_formed none_zero in
      subst (λ (m : ℕ). Ending p m walked.window t) (ap (λ (q : Pair). q.top) (sym (single_pair x xl none c none_zero ce))) (ending mode p (length entry) room X none 0 k walked t (single_stopped none none_formed none_zero) (rw len room))

  pub single_few : walked.columns ≤ 2 ^ 20
  single_few = columns_few mode p (length entry) room X none 0 (single_course X none g r none_formed none_zero) walked t (single_stopped none none_formed none_zero)

  -- what the walk's end leaves
  abbrev SingleEnds : List ℕ → Placed → Type 0
  SingleEnds exit placed =
      (v z : Operand) (from : ℕ) → Course v z from → record { same = true; first = x.precision; second = 0; gap = 0; top = c } ≡ pair_of v z → x.negative ≡ v.negative → Stopped mode p v z walked t → Left p (add mode p v z) exit placed

  single_left : {exit : List ℕ} {placed : Placed} → SingleEnds exit placed → (z : Operand) → WellFormed z → z.is_zero ≡ true → Left p (add mode p X z) exit placed
  unfolding operand_of
  single_left left z h e = left X z 0 (single_course X z g r h e) (single_pair x xl z c e ce) refl (single_stopped z h e)

  pub single_ranged : {exit : List ℕ} {placed : Placed} → SingleEnds exit placed → Ranged placed
  single_ranged left = sum_ranged mode p X none _ (single_left left none none_formed none_zero).told

  pub single_reported : {exit : List ℕ} {placed : Placed} {s : Sum} {u : ℕ} → SingleEnds exit placed
      → u ≡ used_of walked.columns 0 (length xl) → ((a : Answer) → Signed x.negative a → placed ≡ placed_of a → s ≡ sum_of a p walked.columns u 0)
      → (z : Operand) → WellFormed z → z.is_zero ≡ true → Reported plus mode p X z exit s
  unfolding operand_of
  single_reported {exit} {placed} {s} {u} left us told z h e =
      reported mode p (length entry) room X z 0 (single_course X z g r h e) walked t (single_stopped z h e) u 0 (single_left left z h e) told
      (us ∙ used_is X (top_exponent X z) walked.columns 0 g r (top_single X z r e)) (used_zero z (top_exponent X z) walked.columns e)

module _ (mode : Mode) (p : ℕ) (x : Number) (xl : List ℕ) (y : Number) (yl : List ℕ) (from : ℕ) (by : Way) (c d : ℕ) (walked : Walked) (entry t : List ℕ)
    (ye : (operand_of y yl).is_zero ≡ false) (course : Course (operand_of x xl) (operand_of y yl) from) (room : Room p (length entry)) (wy : theory_way by ≡ way mode x.negative) (ce : c ≡ counted x.exponent) (de : d ≡ counted y.exponent) (len : length t ≡ length entry)
    (stops : (o : Mode) (u v : Operand) → Course u v from → record { same = beq x.negative y.negative; first = x.precision; second = y.precision; gap = c - d; top = c } ≡ pair_of u v → xl ≡ u.limbs → (v.is_zero ≡ false → yl ≡ v.limbs) → theory_way by ≡ way o u.negative → Stopped o p u v walked t) where
  both_stopped : Stopped mode p (operand_of x xl) (operand_of y yl) walked t
  unfolding operand_of
  both_stopped = stops mode (operand_of x xl) (operand_of y yl) course (ordered_pair x xl y yl c d ye ce de) (limbs_are x xl) (λ f. limbs_are y yl) wy

  pub ordered_ending : Ending p c walked.window t
  ordered_ending =
      subst (λ (m : ℕ). Ending p m walked.window t) (ap (λ (q : Pair). q.top) (sym (ordered_pair x xl y yl c d ye ce de))) (ending mode p (length entry) room (operand_of x xl) (operand_of y yl) from course walked t both_stopped (rw len room))

  pub ordered_few : walked.columns ≤ 2 ^ 20
  ordered_few = columns_few mode p (length entry) room (operand_of x xl) (operand_of y yl) from course walked t both_stopped

  -- what the walk's end leaves
  abbrev OrderedEnds : List ℕ → Placed → Type 0
  OrderedEnds exit placed =
      (v z : Operand) (from : ℕ) → Course v z from → record { same = beq x.negative y.negative; first = x.precision; second = y.precision; gap = c - d; top = c } ≡ pair_of v z → x.negative ≡ v.negative → Stopped mode p v z walked t → Left p (add mode p v z) exit placed

  ordered_left : {exit : List ℕ} {placed : Placed} → OrderedEnds exit placed → Left p (add mode p (operand_of x xl) (operand_of y yl)) exit placed
  unfolding operand_of
  ordered_left left = left (operand_of x xl) (operand_of y yl) from course (ordered_pair x xl y yl c d ye ce de) refl both_stopped

  pub ordered_ranged : {exit : List ℕ} {placed : Placed} → OrderedEnds exit placed → Ranged placed
  ordered_ranged left = sum_ranged mode p (operand_of x xl) (operand_of y yl) _ (ordered_left left).told

  pub ordered_reported : {exit : List ℕ} {placed : Placed} {s : Sum} {i j : ℕ} → OrderedEnds exit placed
      → i ≡ used_of walked.columns 0 (length xl) → j ≡ used_of walked.columns (c - d) (length yl) → ((a : Answer) → Signed x.negative a → placed ≡ placed_of a → s ≡ sum_of a p walked.columns i j)
      → Reported plus mode p (operand_of x xl) (operand_of y yl) exit s
  unfolding operand_of
  ordered_reported {exit} {placed} {s} {i} {j} left us vs told =
      reported mode p (length entry) room (operand_of x xl) (operand_of y yl) from course walked t both_stopped i j (ordered_left left) told
      (us ∙ used_is (operand_of x xl) (top_exponent (operand_of x xl) (operand_of y yl)) walked.columns 0 course.ordered.first course.ordered.regular (first_gap x xl y yl from c d ye course ce de))
      (vs ∙ used_is (operand_of y yl) (top_exponent (operand_of x xl) (operand_of y yl)) walked.columns (c - d) course.ordered.second ye (second_gap x xl y yl from c d ye course ce de))
