-- What the first operand's limbs tell of a sum whose second lies below them: they are all that is read, a little more or a little less than they rounds to the answer, and none of the second is used. Assumes nothing.
use mathlib.Core.Path.{◌≡◌, refl, sym, ap, ◌∙◌, subst}
use mathlib.Core.Bool.{Bool, true, false, cond, ◌&&◌, true≢false}
use mathlib.Core.List.{List}
use Rattle.std.specs.Prelude.{Some}
use Prim.Native.Nat.{ℕ, ◌+◌, ◌-◌, ◌*◌, ◌^◌, ◌≤◌, ◌<◌}
use native.Mathlib.Omega.{arith}
use borrow.Author.Tests.{le-leb}
use lib.Dec.{leb}
use lib.ListN.{length}
use Rattle.limb.specs.Value.{value_of, Below}
use Rattle.numbers.specs.Limits.{most_precision, limbs_for}
use Rattle.numbers.specs.Operand.{Operand}
use Rattle.rounding.specs.declared.Mode.{Mode}
use Rattle.rounding.specs.declared.Mode.TheVariants.{Nearest}
use Rattle.place.specs.declared.Placed.{Placed}
use Rattle.place.specs.Placed.{run_rule}
use Rattle.place.specs.Rounded.{rounded_placed, rounded_limbs}
use Rattle.columns.specs.Column.{read_to}
use Rattle.walk.specs.Change.{ChangedFrom}
use Rattle.walk.specs.declared.change.Change.TheVariants.{Fall}
use Rattle.settle.specs.declared.rows.Pair.{Pair}
use Rattle.bridge.proofs.Told.{pair_first}
use Rattle.checks.specs.Room.{Room}
use Rattle.descent.specs.Course.{Inland, Prompt}
use Rattle.descent.proofs.GoingDown.{room_some, room_kept}
use Rattle.reports.specs.Counts.{used_of}
use Rattle.reports.proofs.Counts.{used_none, used_all}
use Rattle.wide.specs.declared.filling.Filled.{Filled}
use Rattle.wide.specs.Filling.{Holding, Rounds, Fills}
use Rattle.wide.specs.Attempted.{Attempted}
use Rattle.wide.proofs.InHollow.{hollow_rounds}
use Rattle.wide.proofs.InOrder.{unit_room, fit, in_order_told}
use Rattle.wide.specs.Beside.{Beside}
use Rattle.far.specs.Alone.{Alone}
use Rattle.far.proofs.Limbs.{read_all}

-- ---- a little more, a little less

pub beside_more : {same : Bool} (first after : List ℕ) → after ≡ first → same ≡ true → Beside same first after 0
beside_more first after e t = record { size = ap length e; more = λ s. (ap value_of e, refl); less = λ s. absurd (true≢false (sym t ∙ s)) }

-- ---- the limbs used

-- all of the first, none of the second
used_far : (n gap first second : ℕ) → 0 < n → first ≡ n → 64 * n ≤ gap → (n ≡ used_of n 0 first) × (0 ≡ used_of n gap second)
used_far n gap first second some e far = (sym e ∙ used_all n 0 first (omega arith) (omega (arith, e)), used_none n gap second far)

-- in the order of the pair
used_in_order : (s : Bool) {n i j a b : ℕ} → i ≡ cond s 0 n → j ≡ cond s n 0 → (n ≡ a) × (0 ≡ b) → (cond s j i ≡ a) × (cond s i j ≡ b)
used_in_order true e f u = (f ∙ u.0, e ∙ u.1)
used_in_order false e f u = (e ∙ u.0, f ∙ u.1)

-- ---- the run

-- carry 0, more below: a run of n limbs with its guard
abbrev run_of : ℕ → ℕ → Filled
run_of n guard = record { carry = false; guard = guard; more = true; depth = n }

module _ (p : ℕ) (pair : Pair) (first before : List ℕ) (a : Alone p pair first before) where
  abbrev n : ℕ
  n = length before

  abbrev second : List ℕ
  second = a.second

  abbrev pub x : Operand
  x = a.offered.larger

  abbrev h : Holding x a.offered.other pair first second
  h = a.offered.holding

  second_few : length second ≤ 2 ^ 20
  unfolding limbs_for most_precision
  second_few = rw h.second_is (omega (arith, h.course.ordered.second.count, h.course.ordered.second.most))

  pub digits_are : pair.first ≡ x.precision
  digits_are = ap (λ (s : Pair). s.first) h.pair_is ∙ pair_first x a.offered.other

  -- its own digits take as many limbs as those asked for
  pub count : length before ≡ limbs_for x.precision
  count = sym a.long ∙ ap length h.first_is ∙ h.course.ordered.first.count

  fits : pair.first ≤ 64 * n
  unfolding limbs_for
  fits = omega (arith, digits_are, count)

  apart : (leb (64 * n) pair.gap && leb pair.first (64 * n)) ≡ true
  apart = rw (le-leb (64 * n) pair.gap a.below, le-leb pair.first (64 * n) fits) refl

  prompt : Prompt pair (length first) (length second) 0 n
  prompt = record { first_long = omega (arith, a.long); second_long = λ s. (second_few, omega (arith, a.below)); inland = subst (Inland pair) start a.inland }
    where
      start : n - 1 ≡ 0 + n - 1
      start = omega arith

  read : read_to n 0 first ≡ value_of first
  read = subst (λ (m : ℕ). read_to m 0 first ≡ value_of first) a.long (read_all first)

  module _ (after : List ℕ) (guard : ℕ) (lim : Below (2 ^ 64) after) (b : Beside pair.same first after guard) where
    size : length after ≡ n
    size = b.size ∙ a.long

    fills : Fills p pair first second after (Some (run_of n guard))
    fills o z w g = hollow_rounds p pair first second before after a.room apart a.far prompt size lim o z w g first guard (sym read) b

    kept : Room p (length after)
    kept = room_kept _ _ _ size a.room

    pub far_unit : 64 * (length after + 1) ≤ pair.top
    far_unit = unit_room p (length after) kept pair first second x a.offered.other h

    pub far_fit : run_rule p false after (pair.top - 64 * (length after + 1)) ≡ 0
    far_fit = fit p pair first second after kept x a.offered.other h false (fills Nearest x a.offered.other h).led

    pub far_told : (mode : Mode) (negative : Bool) (z w : Operand) → Holding z w pair first second → negative ≡ z.negative → (swapped : Bool) {exit : List ℕ} {placed : Placed} {i j : ℕ}
        → placed ≡ rounded_placed mode p negative (pair.top - 64 * (length after + 1)) false after guard true → exit ≡ rounded_limbs mode p negative (pair.top - 64 * (length after + 1)) false after guard true
        → i ≡ cond swapped 0 n → j ≡ cond swapped n 0 → Attempted mode p z w exit negative placed n (cond swapped j i) (cond swapped i j)
    far_told mode negative z w g sign swapped c d e f =
        in_order_told p pair first second after kept z w g mode (run_of n guard) (fills mode z w g) negative sign c d (used_in_order swapped e f (used_far n pair.gap (length first) (length second) (room_some p n a.room) a.long a.below))
