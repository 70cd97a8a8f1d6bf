-- The first column of two operands comes from their top limbs, and the run that it fixes is rounded to their sum. Assumes nothing.
use mathlib.Core.Path.{◌≡◌, refl, sym, ap, ◌∙◌}
use mathlib.Core.Bool.{Bool, true, false}
use mathlib.Core.List.{List, [], ◌∷◌}
use Prim.Native.Nat.{ℕ, ◌+◌, ◌-◌, ◌/◌, ◌^◌, ◌≤◌, ◌<◌}
use lib.ListN.{length}
use Rattle.limb.specs.Value.{Below}
use Rattle.numbers.specs.Operand.{Operand, WellFormed}
use Rattle.rounding.specs.declared.Mode.{Mode}
use Rattle.checks.proofs.Form.{lead_top_bit}
use Rattle.place.specs.declared.Placed.{Placed}
use Rattle.place.specs.Placed.{run_rule}
use Rattle.place.specs.Rounded.{rounded_placed, rounded_limbs}
use Rattle.columns.specs.Column.{read_to}
use Rattle.settle.specs.declared.rows.Pair.{Pair}
use Rattle.bridge.specs.Verdict.{pair_of, Leads, read_sum}
use Rattle.bridge.proofs.Told.{pair_top}
use Rattle.descent.proofs.Handed.{limbs_some}
use Rattle.descent.proofs.Handed as Handed
use Rattle.narrow.specs.declared.column.Column.{Column}
use Rattle.narrow.specs.Sighting.{top_limb, Held, Facing, Told}
use Rattle.narrow.specs.Column.{first_read, Found}
use Rattle.narrow.proofs.Settled.{read_sum_lem, read_difference}
use Rattle.narrow.proofs.Passed.{passes, run_told}

-- ---- the top limb is the first column

pub top_read : (gap : ℕ) (l : List ℕ) → Below (2 ^ 64) l → 0 < length l → read_to 1 gap l ≡ top_limb l / 2 ^ gap
unfolding top_limb
top_read gap l below some = Handed.top_read gap l below some

-- a regular number's first digit is 1
pub top_led : (x : Operand) → WellFormed x → x.is_zero ≡ false → 2 ^ 63 ≤ top_limb x.limbs
unfolding top_limb
top_led x g r = rw g.count (lead_top_bit x.limbs g.limb _ (rw g.count at (limbs_some x g)) g.count (g.regular r).lead)

pub top_first : (x : Operand) → WellFormed x → read_to 1 0 x.limbs ≡ top_limb x.limbs
unfolding top_limb
top_first x g = Handed.top_first x g

module _ (x y : Operand) (pair : Pair) (u v : ℕ) (h : Held x y pair u v) where
  pub first_read_lem : read_to 1 0 x.limbs ≡ u
  first_read_lem = top_first x h.ordered.first ∙ sym h.first_top

  pub second_read : read_to 1 (pair_of x y).gap y.limbs ≡ v / 2 ^ pair.gap
  second_read =
      top_read (pair_of x y).gap y.limbs h.ordered.second.limb (limbs_some y h.ordered.second)
      ∙ ap (λ (n : ℕ). n / 2 ^ (pair_of x y).gap) (sym h.second_top) ∙ ap (λ (s : Pair). v / 2 ^ s.gap) (sym h.pair_is)

  -- the signs are like or unlike, as the pair says
  pub apart : {b : Bool} → pair.same ≡ b → (pair_of x y).same ≡ b
  apart e = ap (λ (s : Pair). s.same) (sym h.pair_is) ∙ e

  -- the top limbs show the larger
  leads : (pair.same ≡ false → v / 2 ^ pair.gap < u) → Leads x y 1
  leads ahead e = rw (first_read_lem, second_read) (ahead (ap (λ (s : Pair). s.same) h.pair_is ∙ e))

  read_is : read_sum x y 1 ≡ first_read pair u v
  read_is = go pair.same refl
    where
      sum : (pair_of x y).same ≡ true → read_sum x y 1 ≡ u + v / 2 ^ pair.gap
      sum e =
          let z : read_sum x y 1 ≡ read_to 1 0 x.limbs + read_to 1 (pair_of x y).gap y.limbs = unfold read_sum in rw (e, h.regular) in
          z ∙ ap (λ (n : ℕ). n + read_to 1 (pair_of x y).gap y.limbs) first_read_lem ∙ ap (λ (n : ℕ). u + n) second_read

      difference : (pair_of x y).same ≡ false → read_sum x y 1 ≡ u - v / 2 ^ pair.gap
      difference e =
          let z : read_sum x y 1 ≡ read_to 1 0 x.limbs - read_to 1 (pair_of x y).gap y.limbs = unfold read_sum in rw (e, h.regular) in
          z ∙ ap (λ (n : ℕ). n - read_to 1 (pair_of x y).gap y.limbs) first_read_lem ∙ ap (λ (n : ℕ). u - n) second_read

      go : (b : Bool) → pair.same ≡ b → read_sum x y 1 ≡ first_read pair u v
      go true e = sum (apart e) ∙ sym (read_sum_lem pair u v e)
      go false e = difference (apart e) ∙ sym (read_difference pair u v e)

-- ---- the run

module _ (p : ℕ) (pair : Pair) (u v : ℕ) (f : Facing p pair u) (r : Column) (found : Found p pair u v r) where
  pub run_passes : run_rule p r.carry (r.limb ∷ []) (pair.top - 128) ≡ 0
  run_passes = passes p f.least f.most pair.top f.low f.high r.carry r.limb found.settles.led

  pub told : (mode : Mode) (negative : Bool) (limb : ℕ) (placed : Placed) → placed ≡ rounded_placed mode p negative (pair.top - 128) r.carry (r.limb ∷ []) r.guard r.more
      → limb ∷ [] ≡ rounded_limbs mode p negative (pair.top - 128) r.carry (r.limb ∷ []) r.guard r.more → (x y : Operand) → Held x y pair u v → negative ≡ x.negative → Told mode p x y negative limb placed
  told mode negative limb placed e g x y h sign =
      run_told p f.least f.most pair.top f.low f.high r.carry r.limb found.settles.led r.guard r.more mode negative limb placed e g x y (ap (λ (s : Pair). s.top) h.pair_is ∙ pair_top x y) sign
      (found.settles.answers mode x y h.ordered h.regular h.pair_is (leads x y pair u v h found.ahead) (read_is x y pair u v h))
