-- What the rules of a run say, test by test. Assumes nothing.
use mathlib.Core.Path.{◌≡◌, refl, sym, ap, ◌∙◌}
use mathlib.Core.Bool.{Bool, true, false, cond, ◌&&◌, ◌||◌}
use mathlib.Core.List.{List}
use Prim.Native.Nat.{ℕ, ◌+◌, ◌-◌, ◌*◌, ◌/◌, ◌≤◌, ◌<◌}
use native.Mathlib.Omega.{arith}
use lib.Dec.{ltb, leb, eqb}
use lib.ListN.{length, get_or}
use borrow.Author.Tests.{ltb-true, leb-true, eqb-true, ne_eqb, eq-eqb}
use Rattle.limb.proofs.Tests.{both_true, second_true}
use Rattle.numbers.specs.Limits.{least_precision, most_precision, most_exponent, bias, limbs_for}
use Rattle.numbers.specs.Operand.{spare_bits}
use Rattle.place.specs.Placed.{run_rule}

pub precision_most : (p : ℕ) → (leb least_precision p && leb p most_precision) ≡ true → p ≤ 4096
unfolding most_precision
precision_most p e = leb-true p 4096 (both_true (leb least_precision p) (leb p 4096) e).1

-- a run that the rules let pass, whose limbs hold the digits and fewer than 64 spare bits
pub record Passed (p : ℕ) (carry : Bool) (target : List ℕ) (unit : ℕ) : Type 0 where
  pub least : 2 ≤ p
  pub most : p ≤ 4096
  pub count : length target ≡ limbs_for p
  pub some : 0 < unit
  pub small : unit ≤ 2201170739198
  pub first : carry ≡ false → 0 < get_or target (length target - 1) 0
  pub some_limbs : 0 < length target
  pub few_limbs : length target ≤ 64
  pub digits_fit : p ≤ 64 * length target
  pub spare_few : 64 * length target - p < 64

four : (a b c d : Bool) → ◌≡◌ {A = ℕ} (cond a (cond b (cond c (cond d 0 5) 4) 3) 2) 0 → (a ≡ true) × (b ≡ true) × (c ≡ true) × (d ≡ true)
four true true true true e = (refl, refl, refl, refl)
four true true true false e = absurd (omega arith)
four true true false d e = absurd (omega arith)
four true false c d e = absurd (omega arith)
four false b c d e = absurd (omega arith)

-- the limbs of p digits
module _ (p n : ℕ) (e : n ≡ limbs_for p) where
  limbs_some : 2 ≤ p → 0 < n
  unfolding limbs_for
  limbs_some h = omega arith

  limbs_few : p ≤ 4096 → n ≤ 64
  unfolding limbs_for
  limbs_few h = omega arith

  limbs_fit : p ≤ 64 * n
  unfolding limbs_for
  limbs_fit = omega arith

  limbs_spare : 2 ≤ p → 64 * n - p < 64
  unfolding limbs_for
  limbs_spare h = omega arith

pub passed : (p : ℕ) (carry : Bool) (t : List ℕ) (unit : ℕ) → run_rule p carry t unit ≡ 0 → Passed p carry t unit
unfolding run_rule least_precision most_exponent bias
passed p carry t unit e =
    let f = four (leb least_precision p && leb p most_precision) (eqb (length t) (limbs_for p)) (ltb 0 unit && leb unit (2 * most_exponent)) (carry || ltb 0 (get_or t (length t - 1) 0)) e in
    let least : 2 ≤ p = leb-true 2 p (both_true _ _ f.0).0 in
    let most = precision_most p f.0 in
    let count = eqb-true (length t) (limbs_for p) f.1 in
    record {
      least = least;
      most = most;
      count = count;
      some = ltb-true 0 unit (both_true _ _ f.2).0;
      small = leb-true unit (2 * most_exponent) (both_true (ltb 0 unit) _ f.2).1;
      first = λ n. ltb-true 0 _ (second_true carry _ f.3 n);
      some_limbs = limbs_some p (length t) count least;
      few_limbs = limbs_few p (length t) count most;
      digits_fit = limbs_fit p (length t) count;
      spare_few = limbs_spare p (length t) count least;
    }

pub spare_is : (p n : ℕ) → n ≡ limbs_for p → spare_bits p ≡ 64 * n - p
unfolding spare_bits
spare_is p n e = ap (λ (m : ℕ). 64 * m - p) (sym e)

-- ---- each rule, by the first test that fails

module _ (p : ℕ) (carry : Bool) (t : List ℕ) (unit : ℕ) where
  abbrev A : Bool
  A = leb least_precision p && leb p most_precision

  abbrev B : Bool
  B = eqb (length t) (limbs_for p)

  abbrev C : Bool
  C = ltb 0 unit && leb unit (2 * most_exponent)

  abbrev D : Bool
  D = carry || ltb 0 (get_or t (length t - 1) 0)

  pub rule_is : run_rule p carry t unit ≡ cond A (cond B (cond C (cond D 0 5) 4) 3) 2
  unfolding run_rule
  rule_is = refl

  pub count_is : (length t ≡ (p + 63) / 64 → ⊥) → B ≡ false
  unfolding limbs_for
  count_is h = ne_eqb (length t) ((p + 63) / 64) h

  pub counted : length t ≡ (p + 63) / 64 → B ≡ true
  unfolding limbs_for
  counted h = eq-eqb (length t) ((p + 63) / 64) h

  chain : (a b c d : Bool) (n : ℕ) → cond a (cond b (cond c (cond d 0 5) 4) 3) 2 ≡ n → A ≡ a → B ≡ b → C ≡ c → D ≡ d → n ≡ run_rule p carry t unit
  chain a b c d n e f g h k = sym (rule_is ∙ ap (λ (x : Bool). cond x (cond B (cond C (cond D 0 5) 4) 3) 2) f ∙ ap (λ (x : Bool). cond a (cond x (cond C (cond D 0 5) 4) 3) 2) g ∙ ap (λ (x : Bool). cond a (cond b (cond x (cond D 0 5) 4) 3) 2) h ∙ ap (λ (x : Bool). cond a (cond b (cond c (cond x 0 5) 4) 3) 2) k ∙ e)

  pub rule_two : A ≡ false → 2 ≡ run_rule p carry t unit
  rule_two f = chain false B C D 2 refl f refl refl refl

  pub rule_three : A ≡ true → B ≡ false → 3 ≡ run_rule p carry t unit
  rule_three f g = chain true false C D 3 refl f g refl refl

  pub rule_four : A ≡ true → B ≡ true → C ≡ false → 4 ≡ run_rule p carry t unit
  rule_four f g h = chain true true false D 4 refl f g h refl

  pub rule_five : A ≡ true → B ≡ true → C ≡ true → D ≡ false → 5 ≡ run_rule p carry t unit
  rule_five f g h k = chain true true true false 5 refl f g h k

  pub rule_none : A ≡ true → B ≡ true → C ≡ true → D ≡ true → 0 ≡ run_rule p carry t unit
  rule_none f g h k = chain true true true true 0 refl f g h k
