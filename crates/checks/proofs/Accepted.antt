-- What is accepted is of good form, and what is of good form is accepted. Assumes nothing.
use mathlib.Core.Path.{◌≡◌, refl, sym, ◌∙◌}
use mathlib.Core.Bool.{Bool, true, false}
use Prim.Native.Nat.{ℕ, ◌-◌, ◌%◌, ◌^◌, ◌≤◌, ◌<◌}
use native.Mathlib.Nat.{le_of_lt}
use native.Mathlib.Omega.{arith}
use lib.ListN.{length, get_or}
use lib.Dec.{leb}
use borrow.Author.Tests.{leb-true, le-leb, eqb-true, eq-eqb}
use Rattle.std.specs.Prelude.{Ok}
use Rattle.limb.proofs.Tests.{both_true}
use Rattle.limb.specs.Value.{Below}
use Rattle.numbers.specs.Limits.{least_precision, most_precision, bias, least_exponent, most_exponent, limbs_for}
use Rattle.numbers.specs.Operand.{Operand, spare_bits, WellFormed}
use Rattle.numbers.proofs.Limits.{two_digits, limbs_hold}
use Rattle.checks.specs.Check.{accepted, mode_holds, precision_holds, length_holds, exponent_holds, top_bit_holds, spare_bits_hold, form_holds, pair_refusal, single_refusal, compared_refusal, converted_refusal, alone_refusal}
use Rattle.checks.specs.Passes.{TargetPasses, Passes}
use Rattle.checks.proofs.Tables.{accepted_all, unrefused_accepted}
use Rattle.checks.proofs.Passing.{pair_passes, single_passes, compared_passes, converted_passes, alone_passes}
use Rattle.checks.proofs.Tests.{spare_lt}
use Rattle.checks.proofs.Form.{top_bit_lead, lead_top_bit, spare_low}

pub mode_range : (mode : ℕ) → mode_holds mode ≡ true → mode ≤ 3
unfolding mode_holds
mode_range mode h = leb-true mode 3 h

pub range_mode : (mode : ℕ) → mode ≤ 3 → mode_holds mode ≡ true
unfolding mode_holds
range_mode mode h = le-leb mode 3 h

pub precision_range : (p : ℕ) → precision_holds p ≡ true → (least_precision ≤ p) × (p ≤ most_precision)
unfolding precision_holds
precision_range p h = let b = both_true _ _ h in (leb-true least_precision p b.0, leb-true p most_precision b.1)

pub range_precision : (p : ℕ) → least_precision ≤ p → p ≤ most_precision → precision_holds p ≡ true
unfolding precision_holds
range_precision p l m = simp (le-leb least_precision p l, le-leb p most_precision m)

pub length_count : (p n : ℕ) → length_holds p n ≡ true → n ≡ limbs_for p
unfolding length_holds
length_count p n h = eqb-true n (limbs_for p) h

pub count_length : (p n : ℕ) → n ≡ limbs_for p → length_holds p n ≡ true
unfolding length_holds
count_length p n h = eq-eqb n (limbs_for p) h

some_limb : (p : ℕ) → least_precision ≤ p → 0 < limbs_for p
some_limb p h = omega (arith, two_digits, limbs_hold p)

module _ (x : Operand) where
  zero_exponent : x.is_zero ≡ true → exponent_holds x ≡ true → x.exponent ≡ bias
  unfolding exponent_holds
  zero_exponent z h = eqb-true x.exponent bias (rw z at h)

  regular_exponent : x.is_zero ≡ false → exponent_holds x ≡ true → (least_exponent ≤ x.exponent) × (x.exponent ≤ most_exponent)
  unfolding exponent_holds
  regular_exponent z h = let b = both_true (leb least_exponent x.exponent) (leb x.exponent most_exponent) (rw z at h) in (leb-true least_exponent x.exponent b.0, leb-true x.exponent most_exponent b.1)

  regular_form : x.is_zero ≡ false → form_holds x ≡ true → (2 ^ 63 ≤ get_or x.limbs (length x.limbs - 1) 0) × (get_or x.limbs 0 0 % 2 ^ spare_bits x.precision ≡ 0)
  unfolding form_holds top_bit_holds spare_bits_hold
  regular_form z h =
      let b = both_true (top_bit_holds x.limbs) (spare_bits_hold x.precision x.limbs) (rw z at h) in
      (leb-true (2 ^ 63) (get_or x.limbs (length x.limbs - 1) 0) b.0, eqb-true (get_or x.limbs 0 0 % 2 ^ spare_bits x.precision) 0 b.1)

  pub passes_well_formed : Below (2 ^ 64) x.limbs → Passes x → WellFormed x
  passes_well_formed w h =
      let p = precision_range x.precision h.precision in
      let n = length_count x.precision (length x.limbs) h.limbs in
      record {
        least = p.0;
        most = p.1;
        count = n;
        limb = w;
        zero = λ z. zero_exponent z h.exponent;
        regular = λ z. let e = regular_exponent z h.exponent in let f = regular_form z h.form in record {
          least = e.0;
          most = e.1;
          lead = top_bit_lead x.limbs w (limbs_for x.precision) (some_limb x.precision p.0) n (rw n at f.0);
          spare = spare_low (spare_bits x.precision) x.limbs (le_of_lt (spare_lt x.precision)) ∙ f.1;
        };
      }

  exponent_passes : WellFormed x → exponent_holds x ≡ true
  unfolding exponent_holds
  exponent_passes g = go x.is_zero refl
    where
      go : (b : Bool) → x.is_zero ≡ b → exponent_holds x ≡ true
      go true z = simp (z, eq-eqb x.exponent bias (g.zero z))
      go false z = simp (z, le-leb least_exponent x.exponent (g.regular z).least, le-leb x.exponent most_exponent (g.regular z).most)

  form_passes : WellFormed x → form_holds x ≡ true
  unfolding form_holds top_bit_holds spare_bits_hold
  form_passes g = go x.is_zero refl
    where
      go : (b : Bool) → x.is_zero ≡ b → form_holds x ≡ true
      go true z = simp z
      go false z =
          simp (
            z,
            le-leb (2 ^ 63) (get_or x.limbs (length x.limbs - 1) 0) (rw g.count (lead_top_bit x.limbs g.limb (limbs_for x.precision) (some_limb x.precision g.least) g.count (g.regular z).lead)),
            eq-eqb (get_or x.limbs 0 0 % 2 ^ spare_bits x.precision) 0 (sym (spare_low (spare_bits x.precision) x.limbs (le_of_lt (spare_lt x.precision))) ∙ (g.regular z).spare),
          )

  pub well_formed_passes : WellFormed x → Passes x
  well_formed_passes g = record { precision = range_precision x.precision g.least g.most; limbs = count_length x.precision (length x.limbs) g.count; exponent = exponent_passes g; form = form_passes g }

-- ---- the tables: accepted exactly where each condition of document 01 holds

-- a target of p digits in n limbs
pub record TargetFits (p n : ℕ) : Type 0 where
  pub least : least_precision ≤ p
  pub most : p ≤ most_precision
  pub count : n ≡ limbs_for p

pub target_passes : (p n : ℕ) → TargetFits p n → TargetPasses p n
target_passes p n g = record { precision = range_precision p g.least g.most; limbs = count_length p n g.count }

module _ (mode : ℕ) (x y : Operand) (p n : ℕ) where
  pub record PairFits : Type 0 where
    pub mode_small : mode ≤ 3
    pub first : WellFormed x
    pub second : WellFormed y
    pub target : TargetFits p n

  pub accepted_well_formed : Below (2 ^ 64) x.limbs → Below (2 ^ 64) y.limbs → pair_refusal mode x y p n ≡ accepted → PairFits
  unfolding pair_refusal
  accepted_well_formed wx wy e =
      let h = accepted_all _ e in
      record {
        mode_small = mode_range mode h.0;
        first = passes_well_formed x wx (record { precision = h.1.0; limbs = h.1.1.1.1.0; exponent = h.1.1.1.1.1.1.1.0; form = h.1.1.1.1.1.1.1.1.1.0 });
        second = passes_well_formed y wy (record { precision = h.1.1.0; limbs = h.1.1.1.1.1.0; exponent = h.1.1.1.1.1.1.1.1.0; form = h.1.1.1.1.1.1.1.1.1.1.0 });
        target = record { least = (precision_range p h.1.1.1.0).0; most = (precision_range p h.1.1.1.0).1; count = length_count p n h.1.1.1.1.1.1.0 };
      }

  pub well_formed_accepted : PairFits → pair_refusal mode x y p n ≡ accepted
  well_formed_accepted g = pair_passes mode x y p n (range_mode mode g.mode_small) (well_formed_passes x g.first) (well_formed_passes y g.second) (target_passes p n g.target)

module _ (mode : ℕ) (x : Operand) (p n : ℕ) where
  pub record SingleFits : Type 0 where
    pub mode_small : mode ≤ 3
    pub only : WellFormed x
    pub target : TargetFits p n

  pub accepted_single : Below (2 ^ 64) x.limbs → single_refusal mode x p n ≡ accepted → SingleFits
  unfolding single_refusal
  accepted_single w e =
      let h = accepted_all _ e in
      record {
        mode_small = mode_range mode h.0;
        only = passes_well_formed x w (record { precision = h.1.0; limbs = h.1.1.1.0; exponent = h.1.1.1.1.1.0; form = h.1.1.1.1.1.1.0 });
        target = record { least = (precision_range p h.1.1.0).0; most = (precision_range p h.1.1.0).1; count = length_count p n h.1.1.1.1.0 };
      }

  pub single_accepted : SingleFits → single_refusal mode x p n ≡ accepted
  single_accepted g = single_passes mode x p n (range_mode mode g.mode_small) (well_formed_passes x g.only) (target_passes p n g.target)

module _ (x y : Operand) where
  pub accepted_both : compared_refusal x y ≡ accepted → Passes x × Passes y
  unfolding compared_refusal
  accepted_both e =
      let h = accepted_all _ e in (
        record { precision = h.0; limbs = h.1.1.0; exponent = h.1.1.1.1.0; form = h.1.1.1.1.1.1.0 },
        record { precision = h.1.0; limbs = h.1.1.1.0; exponent = h.1.1.1.1.1.0; form = h.1.1.1.1.1.1.1.0 },
      )

  pub accepted_compared : Below (2 ^ 64) x.limbs → Below (2 ^ 64) y.limbs → compared_refusal x y ≡ accepted → WellFormed x × WellFormed y
  accepted_compared wx wy e = let h = accepted_both e in (passes_well_formed x wx h.0, passes_well_formed y wy h.1)

  pub compared_accepted : WellFormed x → WellFormed y → compared_refusal x y ≡ accepted
  compared_accepted g h = compared_passes x y (well_formed_passes x g) (well_formed_passes y h)

module _ (mode : ℕ) (x : Operand) where
  pub accepted_converted : Below (2 ^ 64) x.limbs → converted_refusal mode x ≡ accepted → (mode ≤ 3) × WellFormed x
  unfolding converted_refusal
  accepted_converted w e =
      let h = accepted_all _ e in
      (mode_range mode h.0, passes_well_formed x w (record { precision = h.1.0; limbs = h.1.1.0; exponent = h.1.1.1.0; form = h.1.1.1.1.0 }))

  pub converted_accepted : mode ≤ 3 → WellFormed x → converted_refusal mode x ≡ accepted
  converted_accepted m g = converted_passes mode x (range_mode mode m) (well_formed_passes x g)

module _ (x : Operand) where
  pub accepted_alone : Below (2 ^ 64) x.limbs → alone_refusal x ≡ accepted → WellFormed x
  unfolding alone_refusal
  accepted_alone w e =
      let h = accepted_all _ e in
      passes_well_formed x w (record { precision = h.0; limbs = h.1.0; exponent = h.1.1.0; form = h.1.1.1.0 })

  pub alone_accepted : WellFormed x → alone_refusal x ≡ accepted
  alone_accepted g = alone_passes x (well_formed_passes x g)

-- ---- a caller looks whether it is refused: where it is not, nothing is refused

pub pair_unrefused : (mode : ℕ) (x y : Operand) (p n : ℕ) (u : Unit {0}) → pair_refusal mode x y p n ≡ Ok u → pair_refusal mode x y p n ≡ accepted
unfolding pair_refusal
pair_unrefused mode x y p n u e = unrefused_accepted _ u e

pub single_unrefused : (mode : ℕ) (x : Operand) (p n : ℕ) (u : Unit {0}) → single_refusal mode x p n ≡ Ok u → single_refusal mode x p n ≡ accepted
unfolding single_refusal
single_unrefused mode x p n u e = unrefused_accepted _ u e

pub compared_unrefused : (x y : Operand) (u : Unit {0}) → compared_refusal x y ≡ Ok u → compared_refusal x y ≡ accepted
unfolding compared_refusal
compared_unrefused x y u e = unrefused_accepted _ u e

pub converted_unrefused : (mode : ℕ) (x : Operand) (u : Unit {0}) → converted_refusal mode x ≡ Ok u → converted_refusal mode x ≡ accepted
unfolding converted_refusal
converted_unrefused mode x u e = unrefused_accepted _ u e

pub alone_unrefused : (x : Operand) (u : Unit {0}) → alone_refusal x ≡ Ok u → alone_refusal x ≡ accepted
unfolding alone_refusal
alone_unrefused x u e = unrefused_accepted _ u e
