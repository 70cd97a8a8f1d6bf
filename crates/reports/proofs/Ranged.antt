-- The counted exponent of a sum's answer is that of a regular number, and such a one is that of an i32. Assumes nothing.
use mathlib.Core.Path.{◌≡◌, refl, ap, ◌∙◌}
use mathlib.Core.Bool.{Bool, true, false, cond}
use Prim.Native.Nat.{ℕ, ◌-◌, ◌≤◌, ◌<◌, Ordering}
use native.Mathlib.Omega.{arith}
use lib.Dec.{ltb}
use Rattle.numbers.specs.Limits.{bias, least_exponent, most_exponent}
use Rattle.numbers.specs.Operand.{Operand}
use Rattle.rounding.specs.Mode.{way}
use Rattle.rounding.specs.declared.Mode.{Mode}
use Rattle.rounding.specs.Answer.{Answer, zero_of, number, too_large, too_small, rounded, answer}
use Rattle.rounding.specs.Sum.{sum_at, add}
use Rattle.rounding.proofs.Range.{accepted_only}
use Rattle.place.specs.declared.Placed.{Placed}
use Rattle.place.specs.Placed.{placed_of}
use Rattle.reports.specs.Ranged.{Ranged}

-- the exponents of regular numbers fit 32 bits
pub exponents_fit : (c : ℕ) → least_exponent ≤ c → c ≤ most_exponent → (1097364144128 ≤ c) × (c ≤ 1101659111423)
unfolding least_exponent most_exponent bias
exponents_fit c l m = (omega arith, omega arith)

-- a number that is answered was accepted by its exponent
answer_ranged : (z : Bool) (o : Mode) (p s above below : ℕ) (n : Bool) (e d : ℕ) (t : Ordering) → answer z o p s above below ≡ number n e d t → (least_exponent ≤ e) × (e ≤ most_exponent)
unfolding answer
answer_ranged z o p s above below n e d t = go (ltb below above) (ltb above below)
  where
    go : (a b : Bool) → cond a (rounded (way o false) p s false (above - below)) (cond b (rounded (way o true) p s true (below - above)) (zero_of z)) ≡ number n e d t → (least_exponent ≤ e) × (e ≤ most_exponent)
    go true b h = (accepted_only (way o false) p s false (above - below) n e d t h).1
    go false true h = (accepted_only (way o true) p s true (below - above) n e d t h).1
    go false false h = let w : ◌≡◌ {A = ℕ} 0 1 = cc in absurd (omega arith)

module _ (o : Mode) (p : ℕ) (x y : Operand) where
  exponent_in : (n : Bool) (e d : ℕ) (t : Ordering) → add o p x y ≡ number n e d t → (least_exponent ≤ e) × (e ≤ most_exponent)
  unfolding add sum_at
  exponent_in n e d t = answer_ranged _ o p _ _ _ n e d t

  -- the answer of a sum is ranged
  pub sum_ranged : (r : Placed) → r ≡ placed_of (add o p x y) → Ranged r
  unfolding placed_of
  sum_ranged r h = go (add o p x y) refl
    where
      at : (a : Answer) → add o p x y ≡ a → r.exponent ≡ (placed_of a).exponent
      at a f = ap (λ (q : Placed). q.exponent) h ∙ ap (λ (b : Answer). (placed_of b).exponent) f

      none : (e : ℕ) → e ≡ 0 → 0 < e → ⊥
      none e h l = omega arith

      go : (a : Answer) → add o p x y ≡ a → Ranged r
      go (zero_of n) f i l = absurd (none r.exponent (at (zero_of n) f) l)
      go (number n e d t) f i l = let k : r.exponent ≡ e = at (number n e d t) f in rw k (exponent_in n e d t f)
      go too_large f i l = absurd (none r.exponent (at too_large f) l)
      go too_small f i l = absurd (none r.exponent (at too_small f) l)
