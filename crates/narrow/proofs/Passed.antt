-- A run of one limb passes the checks of the rounding step, and where its answer is that of a sum, it is rounded to the sum. Assumes nothing.
use mathlib.Core.Path.{◌≡◌, refl, sym, ap, ◌∙◌}
use mathlib.Core.Bool.{Bool, true, false, ◌&&◌, ◌||◌}
use mathlib.Core.List.{[], ◌∷◌}
use Prim.Native.Nat.{ℕ, ◌-◌, ◌*◌, ◌≤◌, ◌<◌}
use native.Mathlib.Omega.{arith}
use borrow.Author.Tests.{lt-ltb, le-leb, eq-eqb}
use lib.Dec.{ltb, leb, eqb}
use Rattle.numbers.specs.Limits.{bias, least_precision, most_precision, least_exponent, most_exponent, limbs_for}
use Rattle.numbers.specs.Operand.{Operand}
use Rattle.numbers.proofs.Limits.{two_digits}
use Rattle.rounding.specs.Mode.{way}
use Rattle.rounding.specs.Answer.{rounded}
use Rattle.rounding.specs.Sum.{add}
use Rattle.rounding.specs.declared.Mode.{Mode}
use Rattle.decide.specs.Decide.{decide_at}
use Rattle.place.specs.declared.Placed.{Placed}
use Rattle.place.specs.Placed.{run_number, run_answer, run_rule, placed_of, limbs_after}
use Rattle.place.specs.Rounded.{rounded_placed, rounded_limbs}
use Rattle.place.proofs.Answer.{placed_passed, limbs_passed}
use Rattle.place.proofs.Rules.{rule_none}
use Rattle.descent.proofs.RegularEnd.{rounded_signed}
use Rattle.narrow.specs.Sighting.{Told}

-- ---- the weight of a guard's last digit, two columns below the top

pub top_high : (top : ℕ) → least_exponent ≤ top → 128 ≤ top
unfolding least_exponent bias
top_high top low = omega arith

pub unit_least : (top : ℕ) → least_exponent ≤ top → 64 < top - 128
unfolding least_exponent bias
unit_least top low = omega arith

pub unit_most : (top : ℕ) → top ≤ most_exponent → top - 128 < 2 * most_exponent
unfolding most_exponent bias
unit_most top high = omega arith

module _ (p : ℕ) (least : least_precision ≤ p) (most : p ≤ 62) (top : ℕ) (low : least_exponent ≤ top) (high : top ≤ most_exponent) (carry : Bool) (limb : ℕ) (led : carry ≡ false → 0 < limb) where
  abbrev unit : ℕ
  unit = top - 128

  pub passes : run_rule p carry (limb ∷ []) unit ≡ 0
  passes = sym (rule_none p carry (limb ∷ []) unit precision one weight (first carry refl))
    where
      few : p ≤ most_precision
      few = unfold most_precision in omega arith

      precision : (leb least_precision p && leb p most_precision) ≡ true
      precision = rw (le-leb least_precision p least, le-leb p most_precision few) refl

      one : eqb 1 (limbs_for p) ≡ true
      one = eq-eqb 1 (limbs_for p) (unfold limbs_for in omega (arith, two_digits))

      weight : (ltb 0 unit && leb unit (2 * most_exponent)) ≡ true
      weight = rw (lt-ltb 0 unit (omega (arith, unit_least top low)), le-leb unit (2 * most_exponent) (omega (arith, unit_most top high))) refl

      first : (c : Bool) → carry ≡ c → (c || ltb 0 limb) ≡ true
      first true e = refl
      first false e = lt-ltb 0 limb (led e)

  module _ (guard : ℕ) (more : Bool) where
    abbrev N : ℕ
    N = run_number carry (limb ∷ []) guard more

    pub run_told : (mode : Mode) (negative : Bool) (left : ℕ) (placed : Placed) → placed ≡ rounded_placed mode p negative unit carry (limb ∷ []) guard more → left ∷ [] ≡ rounded_limbs mode p negative unit carry (limb ∷ []) guard more
        → (x y : Operand) → top ≡ x.exponent → negative ≡ x.negative
        → (decide_at mode p x y 1 ≡ true) × (add mode p x y ≡ rounded (way mode x.negative) p (x.exponent - 128 - 1) x.negative N)
        → Told mode p x y negative left placed
    unfolding run_answer
    run_told mode negative left placed e g x y height sign says =
        record {
          fixed = says.0;
          left = record {
            told = e ∙ placed_passed mode p negative unit carry (limb ∷ []) guard more passes ∙ ap placed_of is;
            limbs = g ∙ limbs_passed mode p negative unit carry (limb ∷ []) guard more passes ∙ ap (limbs_after p) is;
          };
          signed = rw (sign, says.1) (rounded_signed _ _ _ _ _);
        }
      where
        is : run_answer mode p negative unit N ≡ add mode p x y
        is =
            ap (λ (n : ℕ). rounded (way mode negative) p (n - 128 - 1) negative N) height
            ∙ ap (λ (b : Bool). rounded (way mode b) p (x.exponent - 128 - 1) b N) sign ∙ sym says.1
