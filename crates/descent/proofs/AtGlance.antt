-- What a glance at the full target fixes, and what is read where it is full. Assumes nothing.
use mathlib.Core.Path.{◌≡◌, refl, sym, subst}
use mathlib.Core.Bool.{Bool, true, false}
use mathlib.Core.List.{List}
use Prim.Native.Nat.{ℕ, ◌+◌, ◌-◌, ◌*◌, ◌^◌, ◌<◌}
use native.Mathlib.Omega.{arith}
use lib.ListN.{length}
use Rattle.std.specs.Prelude.{is_some}
use Rattle.limb.proofs.Carry.{bit_le}
use Rattle.limb.specs.Carry.{bit}
use Rattle.numbers.specs.Operand.{Operand}
use Rattle.rounding.specs.declared.Mode.{Mode}
use Rattle.decide.specs.Decide.{decide_at}
use Rattle.walk.specs.Window.{head_of, Shows, shown_columns}
use Rattle.walk.specs.declared.state.Window.{Window}
use Rattle.walk.proofs.Showing.{columns_guarded}
use Rattle.leap.specs.Leap.{Leapt}
use Rattle.settle.specs.Ways.{theory_way}
use Rattle.settle.specs.Rows.{row_of}
use Rattle.settle.specs.declared.rows.Pair.{Pair}
use Rattle.settle.specs.declared.rows.Way as code
use Rattle.settle.specs.declared.rows.Row.TheVariants.{Exact, Plus, Minus}
use Rattle.bridge.specs.Verdict.{pair_of, read_sum}
use Rattle.descent.specs.declared.going.Verdict.{Verdict}
use Rattle.descent.specs.declared.going.Verdict.TheVariants.{Fixed}
use Rattle.checks.specs.Room.{Room}
use Rattle.descent.specs.Course.{Course, Judged, Prompt, Held, Reached, Full, Inside}
use Rattle.descent.proofs.JudgingRange.{digits_some, settled_as}
use Rattle.descent.proofs.JudgingRows.{told_exact, told_plus, told_minus}
use Rattle.descent.proofs.AtOnce.{reached, before_open}
use Rattle.descent.proofs.Inside.{inside_plus, inside_minus}

-- ---- what a row says

abbrev Says : ℕ → Pair → Window → ℕ → List ℕ → Verdict → Type 0
Says p pair w k target v =
    (o : Mode) (x y : Operand) (toward : code.Way) (first second : List ℕ) → Held o x y toward pair first second → Reached x y w target k → Judged o p x y k v

module _ (p : ℕ) (pair : Pair) (w : Window) (k : ℕ) (target : List ℕ) (room : Room p (length target)) where
  pub glance_exact : row_of pair k ≡ Exact → Says p pair w k target (Fixed false)
  glance_exact e o x y toward first second held r = told_exact o p (digits_some p (length target) room) x y toward pair first second held w target k r e

  module _ (inside : (k D : ℕ) → Shows w target k D → Inside p D) where
    pub glance_plus : (least next most : Bool) → row_of pair k ≡ Plus least next most → Says p pair w k target (Fixed least)
    unfolding bit
    glance_plus least next most e o x y toward first second held r =
        told_plus o p (digits_some p (length target) room) x y toward pair first second held w target k r least next most e (Fixed least)
        (λ D s m. settled_as pair _ least _ true (sym (inside_plus p D (inside k D s) (theory_way toward) least (bit next) (bit_le next) most)) refl)

    pub glance_minus : (most : Bool) → row_of pair k ≡ Minus most → Says p pair w k target (Fixed most)
    glance_minus most e o x y toward first second held r =
        told_minus o p (digits_some p (length target) room) x y toward pair first second held w target k r most e (Fixed most)
        (λ D s m. settled_as pair _ most _ true (sym (inside_minus p D (inside k D s) (digits_some p (length target) room) (theory_way toward) most)) refl)

-- ---- the target is filled from the first column on

module _ (p : ℕ) (pair : Pair) (first second before after : List ℕ) (room : Room p (length before)) (prompt : Prompt pair (length first) (length second) 0 (length before)) (w : Window)
    (filled : (x y : Operand) → Course x y 0 → pair ≡ pair_of x y → first ≡ x.limbs → (y.is_zero ≡ false → second ≡ y.limbs) → Leapt 0 (0 + length before) (read_sum x y (0 + length before)) before after w)
    (ahead : w.filled ≡ length after → 2 ^ (64 * (length after - 1)) < head_of w after) where
  none : 0 + length after ≡ length after
  none = omega arith

  module _ (o : Mode) (x y : Operand) (toward : code.Way) (held : Held o x y toward pair first second) (course : Course x y 0) where
    pub first_reached : Reached x y w after (length after)
    first_reached = subst (Reached x y w after) none (reached p pair first second 0 before after room prompt w filled ahead o x y toward held course)

    pub first_open : 1 < length after → decide_at o p x y (length after - 1) ≡ false
    first_open = subst (λ (m : ℕ). 1 < m → decide_at o p x y (m - 1) ≡ false) none (before_open p pair first second 0 before after room prompt w filled ahead o x y toward held course)

    leapt : Leapt 0 (0 + length before) (read_sum x y (0 + length before)) before after w
    leapt = filled x y course held.pair_is held.first_is held.second_is

    pub first_full : Full w after
    first_full = record { fits = first_reached.shows.fits; filled = whole; unguarded = go (is_some w.guard) refl }
      where
        whole : w.filled ≡ length after
        whole = leapt.full

        over : (a b c n : ℕ) → a ≡ 0 → b ≡ n → a + (b + 1) + c ≡ n → ⊥
        over a b c n f g h = omega arith

        go : (b : Bool) → is_some w.guard ≡ b → b ≡ false
        go false e = refl
        go true e = absurd (over w.skipped w.filled first_reached.shows.below (length after) leapt.same_skip whole (columns_at e first_reached.shows.columns))
          where
            columns_at : is_some w.guard ≡ true → w.skipped + shown_columns w + first_reached.shows.below ≡ length after → w.skipped + (w.filled + 1) + first_reached.shows.below ≡ length after
            columns_at e h = rw (columns_guarded w after e) at h
