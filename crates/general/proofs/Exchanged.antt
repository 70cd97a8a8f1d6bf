-- The operands of a sum may change places, with their counts. Assumes nothing.
use mathlib.Core.Path.{◌≡◌, refl, sym, ap, ◌∙◌}
use mathlib.Core.Bool.{Bool, true, false, ◌&&◌, true≢false}
use mathlib.Core.List.{List}
use Prim.Native.Nat.{ℕ, ◌<◌}
use native.Mathlib.Omega.{arith}
use Rattle.depth.proofs.Exchange.{top_exchange, result_exchange, deciding_exchange}
use Rattle.numbers.specs.Operand.{Operand}
use Rattle.numbers.proofs.Limits.{two_digits}
use Rattle.rounding.specs.declared.Mode.{Mode}
use Rattle.rounding.specs.Answer.{Answer, zero_of, number, too_large, too_small}
use Rattle.depth.specs.Columns.{top_exponent, limbs_used}
use Rattle.depth.specs.Depth.{plus, result}
use Rattle.place.specs.Placed.{limbs_after}
use Rattle.checks.specs.Room.{Room}
use Rattle.reports.specs.declared.report.Sum.{Sum}
use Rattle.reports.specs.Exchanged.{exchanged_sum}
use Rattle.reports.specs.Summed.{sum_of, refused_sum, Reported}

sum_exchanged : (a : Answer) (p d u v : ℕ) → exchanged_sum (sum_of a p d u v) ≡ sum_of a p d v u
unfolding exchanged_sum sum_of refused_sum
sum_exchanged (zero_of n) p d u v = refl
sum_exchanged (number n e m t) p d u v = refl
sum_exchanged too_large p d u v = refl
sum_exchanged too_small p d u v = refl

module _ (o : Mode) (p : ℕ) (P : 0 < p) (x y : Operand) (some : (x.is_zero && y.is_zero) ≡ false) where
  others : (y.is_zero && x.is_zero) ≡ false
  others = go x.is_zero y.is_zero some
    where
      go : (a b : Bool) → (a && b) ≡ false → (b && a) ≡ false
      go true true e = e
      go true false e = refl
      go false true e = refl
      go false false e = refl

  reported_exchanged : (exit : List ℕ) (r : Sum) → Reported plus o p y x exit r → Reported plus o p x y exit (exchanged_sum r)
  unfolding exchanged_sum
  reported_exchanged exit r d =
      let t = top_exchange x y some in
      record {
        depth = record { zeros = λ e. absurd (true≢false (sym e ∙ some)); deciding = λ e. deciding_exchange o p P x y some r.depth (d.depth.deciding others) };
        bounded = d.bounded;
        answer =
            ap exchanged_sum d.answer ∙ sum_exchanged (result plus o p y x) p r.depth (limbs_used (top_exponent y x) r.depth y) (limbs_used (top_exponent y x) r.depth x)
            ∙ ap (λ (v : Answer). sum_of v p r.depth (limbs_used (top_exponent y x) r.depth x) (limbs_used (top_exponent y x) r.depth y)) (result_exchange o p P y x)
            ∙ ap (λ (v : ℕ). sum_of (result plus o p x y) p r.depth (limbs_used v r.depth x) (limbs_used v r.depth y)) (sym t);
        target = d.target ∙ ap (limbs_after p) (result_exchange o p P y x);
      }

-- the sum of the two in the other order, its counts exchanged
pub zero_first : (mode : Mode) (p n : ℕ) (x y : Operand) (exit : List ℕ) (s r : Sum) → Room p n → y.is_zero ≡ false → r ≡ exchanged_sum s
    → Reported plus mode p y x exit s → Reported plus mode p x y exit r
zero_first mode p n x y exit s r room b e d =
    rw e (reported_exchanged mode p (omega (arith, two_digits, room.least)) x y (some x.is_zero y.is_zero b) exit s d)
  where
    some : (u v : Bool) → v ≡ false → (u && v) ≡ false
    some true v f = f
    some false v f = refl
