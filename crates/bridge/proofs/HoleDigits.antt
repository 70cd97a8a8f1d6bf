-- A number and something far below it, added or taken away: how it rounds, on plain numbers.
use mathlib.Core.Path.{◌≡◌, refl, sym, ap, ◌∙◌}
use mathlib.Core.Bool.{Bool, true, false}
use Prim.Native.Nat.{ℕ, zero, suc, ◌+◌, ◌-◌, ◌*◌, ◌%◌, ◌^◌, ◌≤◌, ◌<◌, compare, Ordering}
use native.Mathlib.Nat.{le_trans, le_of_eq, mul_assoc}
use native.Mathlib.Omega.{arith}
use borrow.Author.Tests.{eq-eqb, ne_eqb}
use lib.Pow.{pow-add}
use lib.Ieee.{size}
use Rattle.rounding.specs.Mode.{Way, near, under, over}
use Rattle.rounding.specs.Answer.{rounded}
use Rattle.rounding.specs.Select.{unit, chosen}
use Rattle.rounding.proofs.Order.{Cmp, cmp}
use Rattle.decide.specs.Class.{tie, off, step}
use Rattle.decide.specs.Answer.{settled_answer}
use Rattle.decide.proofs.Lean.{lean_rest}
use Rattle.decide.proofs.Settled.{Enough, unit_part, chosen_at}
use Rattle.decide.proofs.Carry.{size_pos}
use Rattle.decide.proofs.Answered.{read_answer}

-- what is chosen gives the answer
chosen_rounded : (v w : Way) (p s : ℕ) (g : Bool) (m : ℕ) → chosen v p m ≡ chosen w p m → rounded v p s g m ≡ rounded w p s g m
unfolding rounded
chosen_rounded v w p s g m e = cc

pub borrowed : (a n c : ℕ) → 0 < n → a < c → n * c - a ≡ (n - 1) * c + (c - a)
borrowed a zero c h k = absurd (omega arith)
borrowed a (suc n) c h k = let e : suc n - 1 ≡ n = pred n in rw e (omega arith)
  where
    pred : (n : ℕ) → suc n - 1 ≡ n
    pred n = omega arith

-- ---- m digits of weight 2 ^ l, and a below the weight 2 ^ U, both counted in 2 ^ s

module _ (p : ℕ) (P : 0 < p) (g : Bool) (m l U s a : ℕ) (above : U ≤ l) (low : s ≤ U) (some : 0 < a) (less : a < 2 ^ (U - s)) where
  abbrev n : ℕ
  n = m * 2 ^ (l - U)

  abbrev C : ℕ
  C = 2 ^ (U - s)

  counted : m * 2 ^ (l - s) ≡ n * C
  counted = ap (λ (z : ℕ). m * 2 ^ z) (steps above low) ∙ ap (λ (z : ℕ). m * z) (pow-add 2 (l - U) (U - s)) ∙ sym (mul_assoc m (2 ^ (l - U)) (2 ^ (U - s)))
    where
      steps : U ≤ l → s ≤ U → l - s ≡ l - U + (U - s)
      steps h k = omega arith

  back : U - s + s ≡ U
  back = go low
    where
      go : s ≤ U → U - s + s ≡ U
      go h = omega arith

  pub more_below : (w : Way) → Enough w p n → rounded w p s g (m * 2 ^ (l - s) + a) ≡ settled_answer w p U g n true
  more_below w h = ap (λ (z : ℕ). rounded w p s g (z + a)) counted ∙ read_answer w p s P g (U - s) n true a (some, less) h ∙ ap (λ (z : ℕ). settled_answer w p z g n true) back

  rest : (c : ℕ) → 0 < a → a < c → (0 < c - a) × (c - a < c)
  rest c h k = (omega arith, omega arith)

  pub less_below : (w : Way) → 0 < n → Enough w p (n - 1) → rounded w p s g (m * 2 ^ (l - s) - a) ≡ settled_answer w p U g (n - 1) true
  less_below w pos h =
      ap (λ (z : ℕ). rounded w p s g (z - a)) counted ∙ ap (rounded w p s g) (borrowed a n C pos less)
      ∙ read_answer w p s P g (U - s) (n - 1) true (C - a) (rest C some less) h ∙ ap (λ (z : ℕ). settled_answer w p z g (n - 1) true) back

-- ---- n has just p digits, and what is below is half a unit or more, or half or less

module _ (p : ℕ) (P : 0 < p) (s : ℕ) (g : Bool) (n j a : ℕ) (just : size n ≡ p) (some : 0 < a) (less : a < 2 ^ j) where
  abbrev K : ℕ
  K = 2 ^ j

  unit_is : unit p (n * K + a) ≡ K
  unit_is =
      unit_part p n j a (size_pos n (le_trans P (le_of_eq (sym just)))) less (le_of_eq (sym just))
      ∙ ap (λ (z : ℕ). 2 ^ (z - p) * K) just ∙ ap (λ (z : ℕ). 2 ^ z * K) (none p) ∙ one K
    where
      none : (p : ℕ) → p - p ≡ 0
      none p = omega arith

      one : (c : ℕ) → 2 ^ 0 * c ≡ c
      one c = omega arith

  chosen_is : (w : Way) (o : Ordering) → off w n K a false ≡ o → chosen w p (n * K + a) ≡ step o n * K
  chosen_is w o e = chosen_at w p (n * K + a) n K a refl less unit_is ∙ ap (λ (z : Ordering). step z n * K) (lean_rest w n K a some false ∙ e)

  pub upper_half : n % 2 ≡ 1 → K ≤ a * 2 → rounded near p s g (n * K + a) ≡ rounded over p s g (n * K + a)
  unfolding off
  upper_half odd h = chosen_rounded near over p s g (n * K + a) (chosen_is near Ordering.gt (go (compare (a * 2) K) (cmp (a * 2) K)) ∙ sym (chosen_is over Ordering.gt refl))
    where
      go : (o : Ordering) → Cmp o (a * 2) K → tie false n o ≡ Ordering.gt
      go Ordering.lt c = absurd (omega arith)
      go Ordering.eq c = unfold tie in rw (ne_eqb (n % 2) 0 (λ e. omega arith))
      go Ordering.gt c = unfold tie in refl

  pub lower_half : n % 2 ≡ 0 → a * 2 ≤ K → rounded near p s g (n * K + a) ≡ rounded under p s g (n * K + a)
  unfolding off
  lower_half even h = chosen_rounded near under p s g (n * K + a) (chosen_is near Ordering.lt (go (compare (a * 2) K) (cmp (a * 2) K)) ∙ sym (chosen_is under Ordering.lt refl))
    where
      go : (o : Ordering) → Cmp o (a * 2) K → tie false n o ≡ Ordering.lt
      go Ordering.lt c = unfold tie in refl
      go Ordering.eq c = unfold tie in rw (eq-eqb (n % 2) 0 even)
      go Ordering.gt c = absurd (omega arith)
