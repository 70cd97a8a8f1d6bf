-- What a verdict says of two operands, row by row. Assumes nothing.
use mathlib.Core.Path.{◌≡◌, refl, sym, ap, ◌∙◌, subst}
use mathlib.Core.Bool.{Bool, true, false, cond, ◌||◌, true≢false}
use mathlib.Core.Logic.{inl, inr}
use mathlib.Core.List.{List}
use Prim.Native.Nat.{ℕ, zero, suc, ◌+◌, ◌-◌, ◌*◌, ◌/◌, ◌^◌, ◌≤◌, ◌<◌}
use native.Mathlib.Omega.{arith}
use Rattle.limb.specs.Value.{value_of}
use Rattle.limb.specs.Carry.{bit}
use Rattle.numbers.specs.Limits.{most_precision, bias, most_exponent}
use Rattle.numbers.specs.Operand.{Operand, mantissa, spare_bits}
use Rattle.numbers.proofs.Digits.{precision_two}
use Rattle.rounding.specs.Mode.{way}
use Rattle.rounding.specs.declared.Mode.{Mode}
use Rattle.rounding.specs.Mode as mode
use Rattle.rounding.specs.Answer.{rounded}
use Rattle.rounding.specs.Sum.{add}
use Rattle.depth.specs.Bound.{deepest}
use Rattle.depth.proofs.Bounds.{deepest_today}
use Rattle.decide.specs.Class.{enough}
use Rattle.decide.specs.Table.{hole_by_size}
use Rattle.decide.proofs.Settled.{enough_or}
use Rattle.decide.specs.Decide.{decide_at}
use Rattle.walk.specs.Window.{Shows}
use Rattle.walk.specs.declared.state.Window.{Window}
use Rattle.settle.specs.Ways.{theory_way}
use Rattle.settle.specs.Rows.{row_of, Modest}
use Rattle.hole.specs.Hole.{Formed, Signs}
use Rattle.hole.specs.Hole as hole
use Rattle.settle.specs.declared.rows.Pair.{Pair}
use Rattle.settle.specs.declared.rows.Way.{Way}
use Rattle.settle.specs.declared.rows.Row.{Row}
use Rattle.settle.specs.declared.rows.Row.TheVariants.{Exact, Plus, Minus, Hole}
use Rattle.hole.proofs.Holes.{formed_operand}
use Rattle.bridge.specs.Verdict.{pair_of, Ordered, read_sum, settled_by, refused_by, more_of, verdict, inner?, hole_way}
use Rattle.bridge.proofs.Told.{pair_first, pair_top, pair_second, pair_gap, pair_same, alone_second, alone_gap, unlike_regular}
use Rattle.bridge.proofs.Decision.{decision}
use Rattle.bridge.proofs.Answers.{sum_pos, settled_digits, tests_are, refused_sum}
use Rattle.bridge.proofs.Theorems.{row_sum, hole_place, hole_decision, hole_sum, hole_difference}
use Rattle.bridge.proofs.Covered.{columns_above}
use Rattle.descent.specs.declared.going.Verdict.{Verdict}
use Rattle.descent.specs.declared.going.Verdict.TheVariants.{Open, Fixed, InHole}
use Rattle.descent.specs.Course.{Judged, Held, Reached, Arrived, Measured, Moderate, refused_as, verdict_as}
use Rattle.descent.proofs.GoingOn.{sum_below}

-- ---- the pair is modest

module _ (x y : Operand) (k : ℕ) (d : Ordered x y) (near : k ≤ deepest) where
  above : 64 * k + 1 ≤ x.exponent
  above = columns_above x d.first d.regular k (omega arith)

  high : x.exponent ≤ 2 ^ 42
  unfolding most_exponent bias
  high = omega (arith, (d.first.regular d.regular).most)

  pub pair_modest : Modest (pair_of x y) k
  unfolding most_precision
  pair_modest =
      record {
        first = omega (arith, pair_first x y, d.first.most);
        second = go y.is_zero refl;
        gap = by y.is_zero refl;
        top = omega (arith, pair_top x y, high);
        columns = omega (arith, deepest_today);
        above = omega (arith, pair_top x y, above);
      }
    where
      go : (b : Bool) → y.is_zero ≡ b → (pair_of x y).second ≤ 2 ^ 20
      go true e = omega (arith, alone_second x y e)
      go false e = omega (arith, pair_second x y e, d.second.most)

      by : (b : Bool) → y.is_zero ≡ b → (pair_of x y).gap ≤ 2 ^ 42
      by true e = omega (arith, alone_gap x y e)
      by false e = omega (arith, pair_gap x y e, high)

  second_there : (pair_of x y).same ≡ false → 0 < (pair_of x y).second
  second_there f = omega (arith, pair_second x y (unlike_regular x y f), precision_two y d.second)

module _ (toward : Way) (pair : Pair) (first : List ℕ) (w : Window) (target : List ℕ) (k : ℕ) (a : Arrived toward pair first w target k) where
  abbrev x : Operand
  x = a.larger

  abbrev y : Operand
  y = a.other

  back : pair_of x y ≡ pair
  back = sym a.held.pair_is

  pub arrived_modest : Modest pair k
  arrived_modest = subst (λ (s : Pair). Modest s k) back (pair_modest x y k a.reached.ordered a.reached.near)

  pub arrived_measured : Measured pair w target k
  arrived_measured =
      let s = a.reached.shows in
      record {
        modest = arrived_modest;
        fits = s.fits;
        columns = omega (arith, s.columns);
        other = subst (λ (q : Pair). q.same ≡ false → 0 < q.second) back (second_there x y k a.reached.ordered a.reached.near);
      }

  pub arrived_hole : (p : ℕ) → 0 < p → row_of pair k ≡ Hole → hole.InHole pair first
  arrived_hole p P is =
      let d = a.reached.ordered in
      let h = hole_place a.mode p P x y k d a.reached.some (ap (λ (s : Pair). row_of s k) back ∙ is) in
      let g = pair_gap x y h.0 in
      let m = pair_modest x y k d a.reached.near in
      subst (λ (s : Pair). hole.InHole s first) back
      (record {
        formed = subst (λ (l : List ℕ). Formed (pair_of x y).first l) (sym a.held.first_is) (rw (pair_first x y) (formed_operand x d.first d.regular));
        below = omega (arith, pair_first x y, h.1, h.2);
        gap = m.gap;
      })

-- ---- a verdict on a row

module _ (o : Mode) (p : ℕ) (P : 0 < p) (x y : Operand) (w : Window) (target : List ℕ) (k : ℕ) (r : Reached x y w target k) where
  pub moderate : Moderate (pair_of x y) k (read_sum x y k)
  moderate = record { some = sum_pos o p P x y k r.ordered r.some r.leads; sum = go k r.some }
    where
      go : (k : ℕ) → 1 ≤ k → (pair_of x y).same ≡ true → read_sum x y k < 2 * 2 ^ (64 * k)
      go zero h = absurd (omega arith)
      go (suc j) h = sum_below x y j r.ordered

  room : 64 * k + 1 ≤ x.exponent
  room = above x y k r.ordered r.near

  exact_judged : row_of (pair_of x y) k ≡ Exact → Judged o p x y k (Fixed false)
  unfolding verdict settled_by more_of
  exact_judged is = (
    decision o p P x y k r.ordered r.some r.leads ∙ ap (verdict o p x y k) is,
    row_sum o p P x y k r.ordered r.some r.leads Exact is room refl,
    λ e. absurd (true≢false (sym e)),
  )

  module _ (row : Row) (is : row_of (pair_of x y) k ≡ row) (inner : inner? row ≡ true) where
    tests : decide_at o p x y k ≡ (settled_by (way o x.negative) p (read_sum x y k) row || refused_by (way o x.negative) p (pair_of x y) k (read_sum x y k))
    tests = tests_are o p P x y k r.ordered r.some r.leads row is inner

    by_tests : (b c : Bool) → settled_by (way o x.negative) p (read_sum x y k) row ≡ b → refused_by (way o x.negative) p (pair_of x y) k (read_sum x y k) ≡ c
        → Judged o p x y k (verdict_as (pair_of x y) b (more_of row) c)
    unfolding verdict_as refused_as
    by_tests true c e f = (tests ∙ rw e, row_sum o p P x y k r.ordered r.some r.leads row is room e, λ m. digits e)
      where
        digits : settled_by (way o x.negative) p (read_sum x y k) row ≡ true → enough (way o x.negative) p (read_sum x y k) ≡ true
        digits e = elim (enough_or (way o x.negative) p (read_sum x y k)) [ inl h ↦ h.1 | inr n ↦ absurd (n (settled_digits (way o x.negative) p (read_sum x y k) row inner e)) ]
    by_tests false true e f = (tests ∙ rw (e, f), refl, refused_sum o p P x y k r.ordered r.some r.leads row is inner e f)
    by_tests false false e f = tests ∙ rw (e, f)

    inner_judged : Judged o p x y k
        (verdict_as (pair_of x y) (settled_by (way o x.negative) p (read_sum x y k) row) (more_of row) (refused_by (way o x.negative) p (pair_of x y) k (read_sum x y k)))
    inner_judged = by_tests _ _ refl refl

  module _ (is : row_of (pair_of x y) k ≡ Hole) where
    hole_judged : (b : Bool) → hole_by_size o p x.negative y.negative (mantissa x) ((pair_of x y).gap - x.precision) ≡ b → Judged o p x y k (cond b InHole Open)
    hole_judged false e = hole_decision o p P x y k r.ordered r.some is ∙ e
    hole_judged true e = (fixed, λ b h l. go (pair_of x y).same refl b h l)
      where
        fixed : decide_at o p x y k ≡ true
        fixed = hole_decision o p P x y k r.ordered r.some is ∙ e

        space : (b n : ℕ) → 64 * k + 64 * b + 1 ≤ n → 64 * b + 1 ≤ n - 64 * k
        space b n h = omega arith

        shown : (b : ℕ) {c e : Bool} → c ≡ e
            → rounded (hole_way (way o x.negative) p (pair_of x y)) p (x.exponent - 64 * k - 64 * b - 1) x.negative (cond c (2 * (read_sum x y k * 2 ^ (64 * b)) + 1) (2 * (read_sum x y k * 2 ^ (64 * b)) - 1))
            ≡ rounded (hole_way (way o x.negative) p (pair_of x y)) p (x.exponent - 64 * k - 64 * b - 1) x.negative (cond e (2 * (read_sum x y k * 2 ^ (64 * b)) + 1) (2 * (read_sum x y k * 2 ^ (64 * b)) - 1))
        shown b f =
            ap
            (λ (c : Bool). rounded (hole_way (way o x.negative) p (pair_of x y)) p (x.exponent - 64 * k - 64 * b - 1) x.negative (cond c (2 * (read_sum x y k * 2 ^ (64 * b)) + 1) (2 * (read_sum x y k * 2 ^ (64 * b)) - 1)))
            f

        go : (c : Bool) → (pair_of x y).same ≡ c → (b : ℕ) → p + 1 < 64 * k + 64 * b → 64 * k + 64 * b + 1 ≤ x.exponent
            → add o p x y ≡ rounded (hole_way (way o x.negative) p (pair_of x y)) p (x.exponent - 64 * k - 64 * b - 1) x.negative
            (cond (pair_of x y).same (2 * (read_sum x y k * 2 ^ (64 * b)) + 1) (2 * (read_sum x y k * 2 ^ (64 * b)) - 1))
        go true f b h l = hole_sum o p P x y k r.ordered r.some is b (space b x.exponent l) fixed f (omega arith) ∙ shown b (sym f)
        go false f b h l = hole_difference o p P x y k r.ordered r.some is b (space b x.exponent l) fixed f h ∙ shown b (sym f)

-- ---- as the code has it

module _ (o : Mode) (p : ℕ) (P : 0 < p) (x y : Operand) (toward : Way) (pair : Pair) (first second : List ℕ) (held : Held o x y toward pair first second) (w : Window) (target : List ℕ) (k : ℕ) (r : Reached x y w target k) where
  here : (row : Row) → row_of pair k ≡ row → row_of (pair_of x y) k ≡ row
  here row e = ap (λ (s : Pair). row_of s k) (sym held.pair_is) ∙ e

  pub told_exact : row_of pair k ≡ Exact → Judged o p x y k (Fixed false)
  told_exact e = exact_judged o p P x y w target k r (here Exact e)

  told_inner : (row : Row) → inner? row ≡ true → row_of pair k ≡ row → (v : Verdict)
      → ((D : ℕ) → Shows w target k D → Moderate pair k D → v ≡ verdict_as pair (settled_by (theory_way toward) p D row) (more_of row) (refused_by (theory_way toward) p pair k D)) → Judged o p x y k v
  told_inner row i e v f =
      let D = read_sum x y k in
      let q = f D r.shows (subst (λ (s : Pair). Moderate s k D) (sym held.pair_is) (moderate o p P x y w target k r)) in
      let z : v ≡ verdict_as (pair_of x y) (settled_by (way o x.negative) p D row) (more_of row) (refused_by (way o x.negative) p (pair_of x y) k D) =
      q ∙ ap (λ (s : Pair). verdict_as s (settled_by (theory_way toward) p D row) (more_of row) (refused_by (theory_way toward) p s k D)) held.pair_is
      ∙ ap (λ (t : mode.Way). verdict_as (pair_of x y) (settled_by t p D row) (more_of row) (refused_by t p (pair_of x y) k D)) held.way_is in
      subst (λ (u : Verdict). Judged o p x y k u) (sym z) (inner_judged o p P x y w target k r row (here row e) i)

  pub told_plus : (least next most : Bool) → row_of pair k ≡ Plus least next most → (v : Verdict)
      → ((D : ℕ) → Shows w target k D → Moderate pair k D → v ≡ verdict_as pair (Rattle.decide.specs.Class.settled (theory_way toward) p D least (bit next) most) least (refused_by (theory_way toward) p pair k D)) → Judged o p x y k v
  unfolding settled_by more_of inner?
  told_plus least next most e v f = told_inner (Plus least next most) refl e v f

  pub told_minus : (most : Bool) → row_of pair k ≡ Minus most → (v : Verdict)
      → ((D : ℕ) → Shows w target k D → Moderate pair k D → v ≡ verdict_as pair (Rattle.decide.specs.Class.settled (theory_way toward) p (D - 1) true 1 most) most (refused_by (theory_way toward) p pair k D)) → Judged o p x y k v
  unfolding settled_by more_of inner?
  told_minus most e v f = told_inner (Minus most) refl e v f

  pub told_hole : row_of pair k ≡ Hole → (v : Verdict)
      → ((o : Mode) (a b : Bool) → Signs o a b pair toward → v ≡ cond (hole_by_size o p a b (value_of first / 2 ^ spare_bits pair.first) (pair.gap - pair.first)) InHole Open) → Judged o p x y k v
  unfolding mantissa
  told_hole e v f =
      let is = here Hole e in
      let h = hole_place o p P x y k r.ordered r.some is in
      let q = f o x.negative y.negative (record { same = ap (λ (s : Pair). s.same) held.pair_is ∙ pair_same x y h.0; toward = held.way_is }) in
      let z : v ≡ cond (hole_by_size o p x.negative y.negative (mantissa x) ((pair_of x y).gap - x.precision)) InHole Open =
      q ∙ ap (λ (s : Pair). cond (hole_by_size o p x.negative y.negative (value_of first / 2 ^ spare_bits s.first) (s.gap - s.first)) InHole Open) held.pair_is
      ∙ ap (λ (l : List ℕ). cond (hole_by_size o p x.negative y.negative (value_of l / 2 ^ spare_bits (pair_of x y).first) ((pair_of x y).gap - (pair_of x y).first)) InHole Open) held.first_is
      ∙ ap (λ (n : ℕ). cond (hole_by_size o p x.negative y.negative (value_of x.limbs / 2 ^ spare_bits n) ((pair_of x y).gap - n)) InHole Open) (pair_first x y) in
      subst (λ (u : Verdict). Judged o p x y k u) (sym z) (hole_judged o p P x y w target k r is _ refl)
