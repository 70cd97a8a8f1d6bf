-- A difference is the sum with the second sign turned, in its answer, its depth, its counts and its refusals. Assumes nothing.
use mathlib.Core.Path.{◌≡◌, refl, sym, ap, ◌∙◌, subst}
use mathlib.Core.List.{List}
use Prim.Native.Nat.{ℕ, ◌-◌}
use lib.ListN.{length}
use Rattle.numbers.specs.Operand.{Operand, turned}
use Rattle.rounding.specs.Mode.{mode_of}
use Rattle.rounding.specs.declared.Mode.{Mode}
use Rattle.rounding.specs.Answer.{Answer}
use Rattle.rounding.specs.Sum.{subtract}
use Rattle.depth.specs.Columns.{top_exponent, limbs_used}
use Rattle.depth.specs.Depth.{plus, minus, result, Deciding, Depth}
use Rattle.depth.proofs.Subtract.{addend, fixed_result, open_result}
use Rattle.checks.specs.declared.Number.{Number}
use Rattle.checks.specs.declared.Refusal.{Refusal}
use Rattle.checks.specs.Number.{operand_of, turned_number}
use Rattle.checks.specs.Check.{pair_refusal, exponent_holds, form_holds}
use Rattle.place.specs.Placed.{limbs_after}
use Rattle.reports.specs.declared.report.Sum.{Sum}
use Rattle.reports.specs.Summed.{sum_of, Reported, Refused, Summed}

module _ (o : Mode) (p : ℕ) (x y : Operand) where
  result_turned : result plus o p x (turned y) ≡ result minus o p x y
  unfolding result subtract
  result_turned = refl

  top_turned : top_exponent x (turned y) ≡ top_exponent x y
  unfolding top_exponent turned
  top_turned = refl

  deciding_turned : (k : ℕ) → Deciding plus o p x (turned y) k → Deciding minus o p x y k
  unfolding addend
  deciding_turned k d = record { one = d.one; fixed = fixed_result minus o p x y k d.fixed; fewer = λ h. open_result minus o p x y (k - 1) (d.fewer h) }

  depth_turned : (k : ℕ) → Depth plus o p x (turned y) k → Depth minus o p x y k
  unfolding turned
  depth_turned k d = record { zeros = d.zeros; deciding = λ e. deciding_turned k (d.deciding e) }

  used_turned : (t k : ℕ) → limbs_used t k (turned y) ≡ limbs_used t k y
  unfolding limbs_used turned
  used_turned t k = refl

  pub reported_turned : (exit : List ℕ) (r : Sum) → Reported plus o p x (turned y) exit r → Reported minus o p x y exit r
  reported_turned exit r d =
      let a = result_turned in let b = top_turned in
      record {
        depth = depth_turned r.depth d.depth;
        bounded = d.bounded;
        answer =
            d.answer
            ∙ ap (λ (v : Answer). sum_of v p r.depth (limbs_used (top_exponent x (turned y)) r.depth x) (limbs_used (top_exponent x (turned y)) r.depth (turned y))) result_turned
            ∙ ap (λ (t : ℕ). sum_of (result minus o p x y) p r.depth (limbs_used t r.depth x) (limbs_used t r.depth (turned y))) top_turned
            ∙ ap (sum_of (result minus o p x y) p r.depth (limbs_used (top_exponent x y) r.depth x)) (used_turned (top_exponent x y) r.depth);
        target = d.target ∙ ap (limbs_after p) result_turned;
      }

operand_turned : (y : Number) (yl : List ℕ) → operand_of (turned_number y) yl ≡ turned (operand_of y yl)
unfolding operand_of turned_number turned
operand_turned y yl = refl

refusal_turned : (mode : ℕ) (x : Operand) (y : Number) (yl : List ℕ) (p n : ℕ) → pair_refusal mode x (operand_of (turned_number y) yl) p n ≡ pair_refusal mode x (operand_of y yl) p n
unfolding pair_refusal exponent_holds form_holds operand_of turned_number
refusal_turned mode x y yl p n = refl

pub summed_turned : (mode : ℕ) (x : Number) (xl : List ℕ) (y : Number) (yl : List ℕ) (p : ℕ) (entry exit : List ℕ) (r : Sum)
    → Summed plus mode x xl (turned_number y) yl p entry exit r → Summed minus mode x xl y yl p entry exit r
summed_turned mode x xl y yl p entry exit r s =
    let e = refusal_turned mode (operand_of x xl) y yl p (length entry) in
    record {
      refused = λ c a. s.refused c (e ∙ a);
      reported = λ a. reported_turned (mode_of mode) p (operand_of x xl) (operand_of y yl) exit r (subst (λ (v : Operand). Reported plus (mode_of mode) p (operand_of x xl) v exit r) (operand_turned y yl) (s.reported (e ∙ a)));
    }
