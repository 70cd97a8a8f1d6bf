-- A walk begins, goes on where the verdict is open, and has stopped where it is not. Assumes nothing.
use mathlib.Core.Path.{◌≡◌, refl, sym, ap, ◌∙◌, subst}
use mathlib.Core.Bool.{Bool, true, false, true≢false}
use mathlib.Core.List.{List}
use Prim.Native.Nat.{ℕ, ◌+◌, ◌-◌, ◌^◌, ◌≤◌, ◌<◌}
use native.Mathlib.Numerals.{add-one}
use native.Mathlib.Omega.{arith}
use lib.ListN.{length}
use Rattle.descent.proofs.JudgingRange.{digits_some}
use Rattle.columns.proofs.Reading.{read_early}
use Rattle.numbers.specs.Limits.{least_precision, limbs_for}
use Rattle.numbers.specs.Operand.{Operand}
use Rattle.rounding.specs.declared.Mode.{Mode}
use Rattle.depth.specs.Bound.{deepest}
use Rattle.depth.proofs.Bounds.{deepest_today}
use Rattle.decide.specs.Decide.{decide_at}
use Rattle.columns.specs.Column.{read_to}
use Rattle.walk.specs.Window.{Fits, Shows, shown_columns}
use Rattle.walk.specs.declared.state.Window.{Window}
use Rattle.walk.proofs.Showing.{unfilled_unmixed}
use Rattle.settle.specs.declared.rows.Pair.{Pair}
use Rattle.settle.specs.declared.rows.Way.{Way}
use Rattle.bridge.specs.Verdict.{pair_of, read_sum}
use Rattle.bridge.proofs.Theorems.{level_open}
use Rattle.descent.specs.declared.going.Verdict.{Verdict}
use Rattle.descent.specs.declared.going.Verdict.TheVariants.{Open, Fixed, InHole, Refused}
use Rattle.checks.specs.Room.{Room}
use Rattle.descent.specs.Course.{Course, Judged, Stopped, Held, Begun, Going, Reached, Underway, Arrived, open?}
use Rattle.descent.proofs.GoingOn.{sum_is, difference_is, open_near, going_on, second_read}
use Rattle.descent.proofs.JudgingMixed.{open_unmixed}

pub room_some : (p n : ℕ) → Room p n → 0 < n
unfolding least_precision limbs_for
room_some p n room = omega (arith, room.least, room.count)

pub room_kept : (p m n : ℕ) → n ≡ m → Room p m → Room p n
room_kept p m n e room = record { least = room.least; most = room.most; count = e ∙ room.count }

-- ---- the places in the code

module _ (p : ℕ) (toward : Way) (pair : Pair) (first second : List ℕ) (w : Window) (target : List ℕ) (k : ℕ) (u : Underway p toward pair first second w target k) where
  pub window_fits : Fits w target × (w.skipped + 1 < 2 ^ 64)
  window_fits = (u.going.shows.fits, go (shown_columns w) u.going.shows.below u.going.shows.columns u.going.near)
    where
      go : (c d : ℕ) → w.skipped + c + d ≡ k → k < deepest → w.skipped + 1 < 2 ^ 64
      go c d e h = omega (arith, deepest_today)

  pub column_next : k + 1 < 2 ^ 64
  column_next = omega (arith, deepest_today, u.going.near)

  pub falls : deepest - (k + 1) < deepest - k
  falls = omega (arith, u.going.near)

  pub arrived : (r : Window) (after : List ℕ)
      → ((o : Mode) (p : ℕ) (x y : Operand) (toward : Way) → Held o x y toward pair first second → Going o p x y w target k → Reached x y r after (k + 1))
      → Arrived toward pair first r after (k + 1)
  arrived r after f =
      let h = u.held in
      record {
        mode = u.mode;
        larger = u.larger;
        other = u.other;
        held = record { pair_is = h.pair_is; first_is = h.first_is; second_is = λ e. refl; way_is = h.way_is };
        reached = f u.mode p u.larger u.other toward h u.going;
      }

pub held_first : (o : Mode) (x y : Operand) (toward : Way) (pair : Pair) (first second : List ℕ) → Held o x y toward pair first second → Held o x y toward pair first y.limbs
held_first o x y toward pair first second h = record { pair_is = h.pair_is; first_is = h.first_is; second_is = λ e. refl; way_is = h.way_is }

-- ---- after a verdict

module _ (o : Mode) (p : ℕ) (x y : Operand) (r : Window) (after : List ℕ) (k : ℕ) (v : Verdict) (room : Room p (length after)) (reached : Reached x y r after k) (judged : Judged o p x y k v) where
  pub goes_on : open? v ≡ true → Going o p x y r after k
  unfolding open?
  goes_on = go v judged
    where
      go : (v : Verdict) → Judged o p x y k v → open? v ≡ true → Going o p x y r after k
      go Open e f = going_on o p (digits_some p (length after) room) room.most x y k reached.ordered r after reached e (open_unmixed o p x y r after k room reached e)
      go (Fixed more) e f = absurd (true≢false (sym f))
      go InHole e f = absurd (true≢false (sym f))
      go (Refused rule) e f = absurd (true≢false (sym f))

  fixed_by : (v : Verdict) → Judged o p x y k v → open? v ≡ false → decide_at o p x y k ≡ true
  unfolding open?
  fixed_by Open e f = absurd (true≢false f)
  fixed_by (Fixed more) e f = e.0
  fixed_by InHole e f = e.0
  fixed_by (Refused rule) e f = e.0

  pub stops : (j : ℕ) → k ≡ j + 1 → (1 ≤ j → decide_at o p x y j ≡ false) → open? v ≡ false → Stopped o p x y (record { window = r; columns = k; verdict = v }) after
  stops j e before f =
      record {
        some = reached.some;
        near = reached.near;
        judged = judged;
        fixed = fixed_by v judged f;
        first = λ h. subst (λ (n : ℕ). decide_at o p x y n ≡ false) (last k j e) (before (omega arith));
        shows = reached.shows;
      }
    where
      last : (k j : ℕ) → k ≡ j + 1 → j ≡ k - 1
      last k j e = omega arith

module _ (p : ℕ) (toward : Way) (pair : Pair) (first second : List ℕ) (w : Window) (before : List ℕ) (k : ℕ) (r : Window) (after : List ℕ) (v : Verdict) (room : Room p (length after))
    (stepped : (o : Mode) (p : ℕ) (x y : Operand) (toward : Way) → Held o x y toward pair first second → Going o p x y w before k → Reached x y r after (k + 1))
    (told : (o : Mode) (x y : Operand) → Held o x y toward pair first y.limbs → Reached x y r after (k + 1) → Judged o p x y (k + 1) v) where
  pub next_going : open? v ≡ true → (o : Mode) (x y : Operand) → Held o x y toward pair first second → Going o p x y w before k → Going o p x y r after (k + 1)
  next_going e o x y h g =
      let a = stepped o p x y toward h g in
      goes_on o p x y r after (k + 1) v room a (told o x y (held_first o x y toward pair first second h) a) e

  pub next_underway : open? v ≡ true → Underway p toward pair first second w before k → Underway p toward pair first second r after (k + 1)
  next_underway e u = record { mode = u.mode; larger = u.larger; other = u.other; held = u.held; going = next_going e u.mode u.larger u.other u.held u.going }

  pub now_stopped : open? v ≡ false → (o : Mode) (x y : Operand) → Held o x y toward pair first second → Going o p x y w before k → Stopped o p x y (record { window = r; columns = k + 1; verdict = v }) after
  now_stopped e o x y h g =
      let a = stepped o p x y toward h g in
      stops o p x y r after (k + 1) v room a (told o x y (held_first o x y toward pair first second h) a) k refl g.undecided e

-- ---- the beginning

module _ (o : Mode) (p : ℕ) (x y : Operand) (from : ℕ) (course : Course x y from) (target : List ℕ) (room : Room p (length target)) where
  nothing_read : read_sum x y from ≡ 0
  nothing_read = go (pair_of x y).same refl
    where
      gone : (m n : ℕ) → n ≡ m → m - n ≡ 0
      gone m n e = omega arith

      none : second_read x y 0 ≡ 0
      none = unfold second_read in by y.is_zero
        where
          by : (b : Bool) → mathlib.Core.Bool.cond b 0 (read_to 0 (pair_of x y).gap y.limbs) ≡ 0
          by true = refl
          by false = read_early (pair_of x y).gap y.limbs course.ordered.second.limb 0 (omega arith)

      go : (b : Bool) → (pair_of x y).same ≡ b → read_sum x y from ≡ 0
      go true e =
          ap (read_sum x y) (course.sum e) ∙ sum_is x y 0 course.ordered 0 e
          ∙ ap (λ (n : ℕ). n + second_read x y 0) (read_early 0 x.limbs course.ordered.first.limb 0 (omega arith)) ∙ ap (λ (n : ℕ). 0 + n) none
      go false e = difference_is x y from course.ordered from e ∙ gone (read_to from 0 x.limbs) (read_to from (pair_of x y).gap y.limbs) (course.level e)

  pub open_before : 1 ≤ from → decide_at o p x y from ≡ false
  open_before h = go (pair_of x y).same refl
    where
      go : (b : Bool) → (pair_of x y).same ≡ b → decide_at o p x y from ≡ false
      go true e = absurd (omega (arith, course.sum e))
      go false e =
          level_open o p (digits_some p (length target) room) x y from course.ordered h e (course.level e)
          (subst (λ (n : ℕ). read_to n (pair_of x y).gap y.limbs < read_to n 0 x.limbs) (sym (add-one from)) (course.larger e))

  pub begins : (w : Window) → w.filled ≡ 0 → Shows w target from 0 → Going o p x y w target from
  begins w f s =
      record {
        ordered = course.ordered;
        leads = course.larger;
        near = open_near o p (digits_some p (length target) room) room.most x y from course.ordered open_before;
        undecided = open_before;
        sum = λ e. skipped w.skipped (shown_columns w) s.below s.columns (course.sum e);
        unmixed = unfilled_unmixed w target from 0 s f;
        shows = subst (λ (n : ℕ). Shows w target from n) (sym nothing_read) s;
      }
    where
      skipped : (a b c : ℕ) {d : ℕ} → a + b + c ≡ d → d ≡ 0 → a ≡ 0
      skipped a b c e z = omega arith

pub underway : (p : ℕ) (toward : Way) (pair : Pair) (first second : List ℕ) (from : ℕ) (target : List ℕ) → Room p (length target) → Begun toward pair first second from
    → (w : Window) → w.filled ≡ 0 → Shows w target from 0 → Underway p toward pair first second w target from
underway p toward pair first second from target room b w f s =
    record { mode = b.mode; larger = b.larger; other = b.other; held = b.held; going = begins b.mode p b.larger b.other from b.course target room w f s }
