-- Two zeros: a zero of the sign that the rule gives, nothing read, the target all 0. Assumes nothing.
use mathlib.Core.Path.{◌≡◌, refl, sym, ap, ◌∙◌}
use mathlib.Core.Bool.{true, false, ◌&&◌, true≢false}
use mathlib.Core.List.{List}
use Prim.Native.Nat.{ℕ, zero-le}
use lib.ListN.{replicate}
use Rattle.rounding.proofs.Zeros.{share_zero}
use Rattle.numbers.specs.Limits.{limbs_for}
use Rattle.numbers.specs.Operand.{Operand}
use Rattle.rounding.specs.declared.Mode.{Mode}
use Rattle.rounding.specs.Answer.{Answer, zero_of, answer}
use Rattle.rounding.specs.Sum.{zero_sign, sum_at, add}
use Rattle.depth.specs.Columns.{top_exponent, limbs_used}
use Rattle.depth.specs.Depth.{plus, result}
use Rattle.place.specs.Placed.{limbs_after}
use Rattle.reports.specs.Summed.{sum_of, Reported}

module _ (o : Mode) (p : ℕ) (x y : Operand) (a : x.is_zero ≡ true) (b : y.is_zero ≡ true) where
  sum_zero : result plus o p x y ≡ zero_of (zero_sign o x.negative y.negative)
  unfolding result add sum_at answer
  sum_zero = rw (share_zero false _ x a, share_zero false _ y b, share_zero true _ x a, share_zero true _ y b)

  used_none : (t k : ℕ) (z : Operand) → z.is_zero ≡ true → limbs_used t k z ≡ 0
  unfolding limbs_used
  used_none t k z e = rw e

  both : (x.is_zero && y.is_zero) ≡ true
  both = rw (a, b)

  pub zeros_reported : (exit : List ℕ) → exit ≡ replicate (limbs_for p) 0 → Reported plus o p x y exit (sum_of (zero_of (zero_sign o x.negative y.negative)) p 0 0 0)
  unfolding sum_of
  zeros_reported exit e =
      record {
        depth = record { zeros = λ f. refl; deciding = λ f. absurd (true≢false (sym both ∙ f)) };
        bounded = zero-le;
        answer = ap (λ (k : ℕ). sum_of (zero_of (zero_sign o x.negative y.negative)) p 0 k 0) (sym (used_none (top_exponent x y) 0 x a)) ∙ ap (λ (k : ℕ). sum_of (zero_of (zero_sign o x.negative y.negative)) p 0 (limbs_used (top_exponent x y) 0 x) k) (sym (used_none (top_exponent x y) 0 y b)) ∙ ap (λ (v : Answer). sum_of v p 0 (limbs_used (top_exponent x y) 0 x) (limbs_used (top_exponent x y) 0 y)) (sym sum_zero);
        target = e ∙ limbs_zero ∙ ap (limbs_after p) (sym sum_zero);
      }
    where
      limbs_zero : replicate (limbs_for p) 0 ≡ limbs_after p (zero_of (zero_sign o x.negative y.negative))
      limbs_zero = unfold limbs_after in refl
