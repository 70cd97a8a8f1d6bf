-- A first operand of no more digits than are asked for: its limbs hold a number of as many, and what `place` answers for a little more or a
-- little less than it is the run beside it, rounded. Assumes nothing.
use mathlib.Core.Path.{◌≡◌, refl, sym, ap, ◌∙◌, subst}
use mathlib.Core.Bool.{Bool, true, false, true≢false}
use mathlib.Core.List.{List}
use Prim.Native.Nat.{ℕ, suc, ◌+◌, ◌-◌, ◌*◌, ◌%◌, ◌^◌, ◌≤◌, ◌<◌}
use native.Mathlib.Nat.{lt_of_lt_of_le}
use native.Mathlib.Omega.{arith}
use borrow.Author.Tests.{ltb-false}
use lib.ListN.{length}
use lib.Pow.{pow_pos}
use Rattle.limb.specs.Carry.{bit}
use Rattle.limb.specs.Value.{value_of, Below}
use Rattle.limb.proofs.Value.{value_lt, base_pow}
use Rattle.numbers.specs.Limits.{least_exponent, most_exponent, most_precision, limbs_for}
use Rattle.numbers.specs.Limbs.{limbs_of}
use Rattle.numbers.specs.Operand.{Operand, Regular, spare_bits}
use Rattle.numbers.proofs.Digits.{limbs_count, limbs_below, limbs_value}
use Rattle.rounding.specs.declared.Mode.{Mode}
use Rattle.place.specs.declared.Placed.{Placed}
use Rattle.place.specs.Placed.{run_number, run_answer, placed_of, limbs_after}
use Rattle.place.specs.Beside.{Stored, above_answer, below_answer}
use Rattle.place.proofs.Answer.{placed_passed, limbs_passed}
use Rattle.settle.specs.declared.rows.Pair.{Pair}
use Rattle.settle.proofs.Units.{whole_less}
use Rattle.bridge.proofs.Told.{pair_top}
use Rattle.bridge.proofs.Covered.{columns_above}
use Rattle.descent.proofs.JudgingRange.{digits_some}
use Rattle.descent.proofs.RegularEnd.{deep_enough}
use Rattle.wide.specs.Beside.{Beside}
use Rattle.far.specs.Alone.{Alone, Answered}
use Rattle.far.proofs.FirstAlone.{x, count, digits_are, far_fit, beside_more}

module _ (p : ℕ) (pair : Pair) (first before : List ℕ) (a : Alone p pair first before) where
  abbrev z : Operand
  z = x p pair first before a

  abbrev n : ℕ
  n = length before

  abbrev good : Regular z
  good = a.offered.holding.course.ordered.first.regular a.offered.holding.course.ordered.regular

  limbs_are : first ≡ z.limbs
  limbs_are = a.offered.holding.first_is

  top : pair.top ≡ z.exponent
  top = ap (λ (s : Pair). s.top) a.offered.holding.pair_is ∙ pair_top z a.offered.other

  limbs : Below (2 ^ 64) first
  limbs = subst (Below (2 ^ 64)) (sym limbs_are) a.offered.holding.course.ordered.first.limb

  lead : 2 ^ (64 * length first - 1) ≤ value_of first
  lead =
      subst (λ (m : ℕ). 2 ^ (64 * m - 1) ≤ value_of first) (sym (a.long ∙ count p pair first before a))
      (subst (λ (l : List ℕ). 2 ^ (64 * limbs_for z.precision - 1) ≤ value_of l) (sym limbs_are) good.lead)

  some : 0 < value_of first
  some = lt_of_lt_of_le (pow_pos (64 * length first - 1)) lead

  deep : 64 * (length first + 1) < pair.top
  unfolding limbs_for most_precision
  deep =
      let above = columns_above z a.offered.holding.course.ordered.first a.offered.holding.course.ordered.regular (n + 1) (omega (arith, a.room.count, a.room.most, deep_enough)) in
      omega (arith, a.long, top, above)

  more_spare : pair.first ≤ p → spare_bits p ≤ spare_bits z.precision
  unfolding spare_bits
  more_spare h = omega (arith, a.room.count, count p pair first before a, digits_are p pair first before a)

  of_first : pair.first ≤ p → Stored p pair.top first
  of_first h =
      record {
        some = digits_some p n a.room;
        count = a.long ∙ a.room.count;
        limb = limbs;
        lead = lead;
        clean = whole_less (value_of first) (spare_bits z.precision) (spare_bits p) (more_spare h) (subst (λ (l : List ℕ). value_of l % 2 ^ spare_bits z.precision ≡ 0) (sym limbs_are) good.spare);
        deep = deep;
        least = subst (λ (m : ℕ). least_exponent ≤ m) (sym top) good.least;
        most = subst (λ (m : ℕ). m ≤ most_exponent) (sym top) good.most;
      }

  -- a sum's exponent may go up by one
  pub below_most : pair.same ≡ true → pair.top < most_exponent
  below_most s = let l = ltb-false most_exponent (pair.top + 2) (a.inland.high s) in omega arith

  -- ---- a copy of it

  pub stored : {t : List ℕ} → t ≡ first → pair.first ≤ p → Stored p pair.top t
  stored copied h = subst (Stored p pair.top) (sym copied) (of_first h)

  -- ---- a little more

  module _ (same : pair.same ≡ true) (mode : Mode) (negative : Bool) {t : List ℕ} (copied : t ≡ first) where
    beside : Beside pair.same first first 0
    beside = beside_more first first refl same

    above_is : above_answer mode p negative pair.top t ≡ run_answer mode p negative (pair.top - 64 * (length first + 1)) (run_number false first 0 true)
    unfolding above_answer run_number bit
    above_is = rw copied (ap (run_answer mode p negative (pair.top - 64 * (length first + 1))) (run (value_of first) (2 ^ (64 * length first))))
      where
        run : (v P : ℕ) → 2 * (v * 2 ^ 64) + 1 ≡ 2 * ((0 * P + v) * 2 ^ 64 + 0) + 1
        run v P = omega arith

    pub more_answered : {r : Placed} {exit : List ℕ} → (r ≡ placed_of (above_answer mode p negative pair.top t)) × (exit ≡ limbs_after p (above_answer mode p negative pair.top t)) → Answered mode p negative pair first r exit
    more_answered e =
        let fit = far_fit p pair first before a first 0 limbs beside in
        record {
          run = first;
          guard = 0;
          limbs = limbs;
          beside = beside;
          placed = e.0 ∙ ap placed_of above_is ∙ sym (placed_passed mode p negative _ false first 0 true fit);
          left = e.1 ∙ ap (limbs_after p) above_is ∙ sym (limbs_passed mode p negative _ false first 0 true fit);
        }

  -- ---- a little less

  abbrev less : List ℕ
  less = limbs_of (length first) (value_of first - 1)

  less_value : suc (value_of less) ≡ value_of first
  less_value = ap suc (limbs_value (length first) (value_of first - 1) small) ∙ back
    where
      back : suc (value_of first - 1) ≡ value_of first
      back = omega (arith, some)

      small : value_of first - 1 < 2 ^ (64 * length first)
      small = under (2 ^ (64 * length first)) (subst (λ (m : ℕ). value_of first < m) (base_pow (length first)) (value_lt (2 ^ 64) first limbs))
        where
          under : (m : ℕ) → value_of first < m → value_of first - 1 < m
          under m h = omega arith

  module _ (unlike : pair.same ≡ false) (mode : Mode) (negative : Bool) {t : List ℕ} (copied : t ≡ first) where
    beside_it : Beside pair.same first less 18446744073709551615
    beside_it = record { size = limbs_count _ _; more = λ s. absurd (true≢false (sym s ∙ unlike)); less = λ s. (λ h. less_value, refl) }

    below_is : below_answer mode p negative pair.top t ≡ run_answer mode p negative (pair.top - 64 * (length less + 1)) (run_number false less 18446744073709551615 true)
    unfolding below_answer run_number bit
    below_is =
        rw copied (ap (λ (m : ℕ). run_answer mode p negative (pair.top - 64 * (m + 1)) (2 * (value_of first * 2 ^ 64) - 1)) (sym (limbs_count (length first) (value_of first - 1)))
        ∙ ap (run_answer mode p negative (pair.top - 64 * (length less + 1))) (run (value_of less) (value_of first) (2 ^ (64 * length less)) less_value))
      where
        run : (u v P : ℕ) → suc u ≡ v → 2 * (v * 2 ^ 64) - 1 ≡ 2 * ((0 * P + u) * 2 ^ 64 + 18446744073709551615) + 1
        run u v P e = omega arith

    pub less_answered : {r : Placed} {exit : List ℕ} → (r ≡ placed_of (below_answer mode p negative pair.top t)) × (exit ≡ limbs_after p (below_answer mode p negative pair.top t)) → Answered mode p negative pair first r exit
    less_answered e =
        let fit = far_fit p pair first before a less 18446744073709551615 (limbs_below (length first) (value_of first - 1)) beside_it in
        record {
          run = less;
          guard = 18446744073709551615;
          limbs = limbs_below _ _;
          beside = beside_it;
          placed = e.0 ∙ ap placed_of below_is ∙ sym (placed_passed mode p negative _ false less _ true fit);
          left = e.1 ∙ ap (limbs_after p) below_is ∙ sym (limbs_passed mode p negative _ false less _ true fit);
        }
