-- An answer as it is reported. Assumes nothing.
use mathlib.Core.Path.{◌≡◌, refl, sym, ap, ◌∙◌}
use mathlib.Core.Bool.{Bool}
use Prim.Native.Nat.{ℕ, ◌<◌}
use native.Mathlib.Omega.{arith}
use lib.IntN.{ℤ}
use Rattle.rounding.specs.Answer.{Answer, zero_of, number, too_large, too_small}
use Rattle.checks.specs.declared.Kind.TheVariants.{Regular}
use Rattle.std.specs.Prelude.{Ok}
use Rattle.checks.specs.declared.Rule.TheVariants.{TooLarge, TooSmall}
use Rattle.checks.specs.declared.Place.TheVariants.{Target}
use Rattle.checks.specs.Number.{exponent_of}
use Rattle.place.specs.declared.Placed.{Placed}
use Rattle.place.specs.Placed.{placed_of}
use Rattle.reports.specs.declared.report.Sum.{Sum}
use Rattle.reports.specs.Summed.{sum_of, refused_sum}
use Rattle.reports.specs.Signed.{Signed}

module _ (negative : Bool) (p depth first second : ℕ) (placed : Placed) where
  pub large_told : placed.rule ≡ 6 → {s : Sum} → s ≡ refused_sum (record { rule = TooLarge; place = Target }) depth first second
      → (a : Answer) → Signed negative a → placed ≡ placed_of a → s ≡ sum_of a p depth first second
  unfolding sum_of placed_of
  large_told h e (zero_of n) g f = absurd (let z : 0 ≡ 6 = ap (λ (q : Placed). q.rule) (sym f) ∙ h in omega arith)
  large_told h e (number n x m t) g f = absurd (let z : 0 ≡ 6 = ap (λ (q : Placed). q.rule) (sym f) ∙ h in omega arith)
  large_told h e too_large g f = e
  large_told h e too_small g f = absurd (let z : 7 ≡ 6 = ap (λ (q : Placed). q.rule) (sym f) ∙ h in omega arith)

  pub small_told : (placed.rule ≡ 6 → ⊥) → (placed.rule ≡ 0 → ⊥) → {s : Sum} → s ≡ refused_sum (record { rule = TooSmall; place = Target }) depth first second
      → (a : Answer) → Signed negative a → placed ≡ placed_of a → s ≡ sum_of a p depth first second
  unfolding sum_of placed_of
  small_told l h e (zero_of n) g f = absurd (h (ap (λ (q : Placed). q.rule) f))
  small_told l h e (number n x m t) g f = absurd (h (ap (λ (q : Placed). q.rule) f))
  small_told l h e too_large g f = absurd (l (ap (λ (q : Placed). q.rule) f))
  small_told l h e too_small g f = e

  -- no number has the counted exponent 0
  pub zero_told : placed.rule ≡ 0 → placed.exponent ≡ 0 → {s : Sum} → s ≡ sum_of (zero_of negative) p depth first second → (a : Answer) → Signed negative a → placed ≡ placed_of a → s ≡ sum_of a p depth first second
  unfolding placed_of
  zero_told h i e (zero_of n) g f = e ∙ ap (λ (b : Bool). sum_of (zero_of b) p depth first second) (sym g)
  zero_told h i e (number n x m t) g f = absurd (let z : x ≡ 0 = ap (λ (q : Placed). q.exponent) (sym f) ∙ i in let l : 0 < x = g.1 in omega arith)
  zero_told h i e too_large g f = absurd (let z : 6 ≡ 0 = ap (λ (q : Placed). q.rule) (sym f) ∙ h in omega arith)
  zero_told h i e too_small g f = absurd (let z : 7 ≡ 0 = ap (λ (q : Placed). q.rule) (sym f) ∙ h in omega arith)

  pub number_told : placed.rule ≡ 0 → (placed.exponent ≡ 0 → ⊥) → {v z : ℤ} → v ≡ exponent_of placed.exponent → z ≡ placed.ternary → (a : Answer) → Signed negative a → placed ≡ placed_of a
      → record { depth = depth; first = first; answer = Ok (record { number = record { negative = negative; kind = Regular; precision = p; exponent = v }; ternary = z }); second = second } ≡ sum_of a p depth first second
  unfolding sum_of placed_of
  number_told h l u i (zero_of n) g f = absurd (l (ap (λ (q : Placed). q.exponent) f))
  number_told h l u i (number n x m t) g f = rw (u, i, f, g.0) refl
  number_told h l u i too_large g f = absurd (let z : 6 ≡ 0 = ap (λ (q : Placed). q.rule) (sym f) ∙ h in omega arith)
  number_told h l u i too_small g f = absurd (let z : 7 ≡ 0 = ap (λ (q : Placed). q.rule) (sym f) ∙ h in omega arith)

-- its depth
pub sum_depth : (a : Answer) (p d u v : ℕ) → (sum_of a p d u v).depth ≡ d
unfolding sum_of refused_sum
sum_depth (zero_of n) p d u v = refl
sum_depth (number n e m t) p d u v = refl
sum_depth too_large p d u v = refl
sum_depth too_small p d u v = refl
