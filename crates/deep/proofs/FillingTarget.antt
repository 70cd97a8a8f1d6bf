-- What stands in the target rounds to the answer: the first column settles it, or the columns after it leave it open up to the last, which fixes it. Assumes nothing.
use mathlib.Core.Path.{◌≡◌, refl, sym, ap, ◌∙◌, subst}
use mathlib.Core.Bool.{Bool, true, false, not, cond}
use mathlib.Core.List.{List}
use Rattle.std.specs.Prelude.{Some}
use Prim.Native.Nat.{ℕ, ◌+◌, ◌-◌, ◌*◌, ◌/◌, ◌^◌, ◌≤◌, ◌<◌}
use native.Mathlib.Omega.{arith}
use lib.ListN.{length, get_or}
use lib.Ieee.{size}
use lib.Ieee.Digits.{size-le}
use Rattle.limb.proofs.Carry.{bit_le}
use Rattle.numbers.specs.Limits.{least_precision, limbs_for}
use Rattle.numbers.specs.Operand.{Operand}
use Rattle.rounding.specs.Mode.{way}
use Rattle.rounding.specs.declared.Mode.{Mode}
use Rattle.depth.specs.Bound.{deepest}
use Rattle.decide.specs.Decide.{decide_at}
use Rattle.columns.specs.Column.{read_to}
use Rattle.remnant.specs.declared.rest.Rest.{Rest}
use Rattle.remnant.specs.Rest.{RestOf, RestAt}
use Rattle.walk.specs.declared.state.Tail.{Tail}
use Rattle.walk.specs.declared.state.Tail.TheVariants.{Empty}
use Rattle.walk.specs.Window.{TailIs}
use Rattle.settle.specs.Ways.{theory_way}
use Rattle.settle.specs.declared.rows.Pair.{Pair}
use Rattle.settle.specs.declared.rows.Way as code
use Rattle.bridge.specs.Verdict.{read_sum, settled_by}
use Rattle.descent.specs.Course.{Inland}
use Rattle.checks.specs.Room.{Room}
use Rattle.descent.proofs.RegularEnd.{deep_enough}
use Rattle.descent.proofs.Handed.{limbs_some, top_read, top_first}
use Rattle.front.specs.declared.showing.Front.{Front}
use Rattle.front.specs.Front.{first_of, Kept}
use Rattle.wide.specs.declared.filling.Filled.{Filled}
use Rattle.wide.specs.Filling.{Holding, Offered, FillsBy}
use Rattle.wide.proofs.GuardBelow.{read_held}
use Rattle.deep.specs.declared.reading.Reading.{Reading}
use Rattle.deep.specs.Deep.{Inner}
use Rattle.deep.specs.Reading.{inner_row, ReadOn, FrontFilled}
use Rattle.deep.proofs.Opening.{inner_row_lem, inner_near, kept_rest, kept_open}
use Rattle.deep.proofs.Closing.{RoundsFirst, ends_rounds, first_rounds, none_below, stored_led, stored_rounds}

-- ---- the target, and how many digits the first column has

pub one_limb : (p n : ℕ) → Room p n → p ≤ 62 → n ≡ 1
unfolding least_precision limbs_for
one_limb p n room few = omega (arith, room.least, room.count)

pub digits_below : (p : ℕ) (front : Front) → front.limb < 2 ^ 64 → 2 ≤ p → size (first_of front) - p ≤ 64
unfolding first_of
digits_below p front fits P = omega (arith, size-le (first_of front) 65 (omega (arith, bit_le front.carry)))

-- ---- the first column is read from the top limbs

abbrev pub top_of : List ℕ → ℕ
top_of l = get_or l (length l - 1) 0

module _ (x y : Operand) (pair : Pair) (first second : List ℕ) (h : Holding x y pair first second) where
  pub first_some : 0 < length first
  first_some = rw h.first_is (limbs_some x h.course.ordered.first)

  pub second_some : 0 < length second
  second_some = rw h.second_is (limbs_some y h.course.ordered.second)

  first_top : read_to 1 0 first ≡ top_of first
  first_top = rw h.first_is (top_first x h.course.ordered.first)

  second_top : read_to 1 pair.gap second ≡ top_of second / 2 ^ pair.gap
  second_top = rw h.second_is (top_read pair.gap y.limbs h.course.ordered.second.limb (limbs_some y h.course.ordered.second))

  pub tops_ordered : pair.same ≡ false → top_of second / 2 ^ pair.gap ≤ top_of first
  tops_ordered e =
      let l : read_to 1 pair.gap second < read_to 1 0 first = rw (h.pair_is, h.first_is, h.second_is) (h.course.larger (rw h.pair_is at e)) in
      omega (arith, first_top, second_top)

  pub tops_read : (front : Front) → first_of front ≡ cond pair.same (top_of first + top_of second / 2 ^ pair.gap) (top_of first - top_of second / 2 ^ pair.gap) → first_of front ≡ read_sum x y 1
  tops_read front e = e ∙ sym (read_held x y pair first second h 1 ∙ rw (first_top, second_top) refl)

-- ---- what the first column settles, and what it leaves open

kept_alone : (N : ℕ) → Kept N 0 N
kept_alone N = record { zeros = λ e. omega arith; ones = λ e. omega arith }

-- what is known after the first column: both operands have more than a digit below it, no refusal is near, and whether the class test settles it
pub record Tested (o : Mode) (negative : Bool) (p : ℕ) (pair : Pair) (first second : List ℕ) (stop : ℕ) (begun : Front) (settled : Bool) : Type 0 where
  pub positive : 0 < p
  pub inner : Inner pair stop
  pub inland : Inland pair stop
  pub begun_is : first_of begun ≡ cond pair.same (top_of first + top_of second / 2 ^ pair.gap) (top_of first - top_of second / 2 ^ pair.gap)
  pub long : p + 2 ≤ size (first_of begun)
  pub rest : Rest
  pub told : (t D : ℕ) → Kept (first_of begun) t D → RestAt D (size (first_of begun) - p + 64 * t) rest
  pub toward : code.Way
  pub way_is : theory_way toward ≡ way o negative
  pub tests : (q D : ℕ) → RestOf q D rest → 0 < q → settled ≡ settled_by (theory_way toward) q D (inner_row pair.same)

module _ (o : Mode) (negative : Bool) (p : ℕ) (pair : Pair) (first second : List ℕ) (stop : ℕ) (begun : Front) (settled : Bool) (k : Tested o negative p pair first second stop begun settled) where
  read_first : (x y : Operand) → Holding x y pair first second → first_of begun ≡ read_sum x y 1
  read_first x y h = tops_read x y pair first second h begun k.begun_is

  way_here : (x : Operand) → negative ≡ x.negative → theory_way k.toward ≡ way o x.negative
  way_here x sign = k.way_is ∙ ap (way o) sign

  first_tests : settled ≡ settled_by (theory_way k.toward) p (first_of begun) (inner_row pair.same)
  first_tests = let N : ℕ = first_of begun in k.tests p N (kept_rest p N 0 N k.rest k.long (kept_alone N) (k.told 0 N (kept_alone N))) k.positive

  -- it settles it
  pub first_fills : begun.tail ≡ Empty → settled ≡ true → (exit : List ℕ) (r : Filled) → FrontFilled begun (not pair.same) 1 exit r → FillsBy o negative p pair first second exit (Some r)
  first_fills empty yields exit r s = (
    rw s.depth_is near_one,
    stored_led p begun (not pair.same) 1 exit r s longer,
    λ x y h sign. stored_rounds p begun (not pair.same) 1 exit r s longer o x y (omega arith) near_one (λ l. absurd (omega arith)) (rounds x y h sign),
  )
    where
      near_one : 1 ≤ deepest
      near_one = omega (arith, deep_enough)

      longer : p < size (first_of begun)
      longer = omega (arith, k.long)

      more_is : r.more ≡ not pair.same
      more_is = s.more_is 0 0 (subst (λ (z : Tail). TailIs z 0 0) (sym empty) (refl, refl)) ∙ none_below (not pair.same)

      settles : (x y : Operand) → Holding x y pair first second → negative ≡ x.negative → settled_by (way o x.negative) p (read_sum x y 1) (inner_row pair.same) ≡ true
      settles x y h sign = rw (← read_first x y h, ← way_here x sign) (sym first_tests ∙ yields)

      rounds : (x y : Operand) → Holding x y pair first second → negative ≡ x.negative → RoundsFirst o p x y 1 begun r.more
      rounds x y h sign = subst (RoundsFirst o p x y 1 begun) (sym more_is) (first_rounds o p k.positive x y pair first second h begun (read_first x y h) longer (inner_row_lem pair stop 1 k.inner (omega arith) k.inner.some) (settles x y h sign))

  -- it does not, and the columns after it leave it open up to the last
  module _ (offered : Offered pair first second) (reading : Reading) (reads : (x y : Operand) → Holding x y pair first second → first_of begun ≡ read_sum x y 1 → ReadOn p pair stop x y reading) (fixed : reading.fixed ≡ true) where
    read : (x y : Operand) → Holding x y pair first second → ReadOn p pair stop x y reading
    read x y h = reads x y h (read_first x y h)

    near_enough : reading.columns ≤ deepest
    near_enough = let h = offered.holding in inner_near offered.larger offered.other pair first second h stop k.inner reading.columns (read offered.larger offered.other h).near

    long_enough : p < size (first_of reading.front)
    long_enough = ((read offered.larger offered.other offered.holding).ends fixed).long

    pub last_fills : settled ≡ false → (exit : List ℕ) (r : Filled) → FrontFilled reading.front false reading.columns exit r → FillsBy o negative p pair first second exit (Some r)
    last_fills unsettled exit r s = (
      rw s.depth_is near_enough,
      stored_led p reading.front false reading.columns exit r s long_enough,
      λ x y h sign. stored_rounds p reading.front false reading.columns exit r s long_enough o x y (some x y h) near_enough (λ l. left_open x y h sign) (rounds x y h),
    )
      where
        some : (x y : Operand) → Holding x y pair first second → 1 ≤ reading.columns
        some x y h = omega (arith, (read x y h).some)

        rounds : (x y : Operand) → Holding x y pair first second → RoundsFirst o p x y reading.columns reading.front r.more
        rounds x y h = let on = read x y h in ends_rounds o p k.positive x y pair first second h reading.columns (some x y h) near_enough reading.front on.shows k.inner.gap (on.ends fixed) r.more s.more_is

        fewer : (n : ℕ) → n - 2 ≡ n - 1 - 1
        fewer n = omega arith

        left_open : (x y : Operand) → Holding x y pair first second → negative ≡ x.negative → decide_at o p x y (reading.columns - 1) ≡ false
        left_open x y h sign =
            let on = read x y h in
            let e = read_first x y h in
            kept_open o p k.positive x y pair first second h stop k.inner k.inland k.toward (way_here x sign) k.rest (rw e at k.long) (rw e at k.told) (λ q D. rw unsettled at (k.tests q D)) (reading.columns - 1) (omega (arith, on.some)) (omega (arith, on.near))
            (subst (λ (t : ℕ). Kept (read_sum x y 1) t (read_sum x y (reading.columns - 1))) (fewer reading.columns) on.kept)
