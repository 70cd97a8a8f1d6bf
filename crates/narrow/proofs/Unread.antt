-- Where a digit below the half of the last one kept is 1, nothing that follows changes what is selected. Assumes nothing.
use mathlib.Core.Path.{◌≡◌, refl, ap, ◌∙◌, subst}
use mathlib.Core.Logic.{◌⊎◌, inl, inr}
use mathlib.Core.Bool.{true, false}
use Prim.Native.Nat.{ℕ, zero, suc, ◌+◌, ◌-◌, ◌*◌, ◌/◌, ◌%◌, ◌^◌, ◌≤◌, ◌<◌, compare, Ordering}
use native.Mathlib.Nat.{mod-lt}
use native.Mathlib.Omega.{arith}
use borrow.Author.Tests.{lt-ltb}
use lib.Pow.{pow_pos, pow-add, mod-pow-add}
use lib.Ieee.{size}
use Rattle.decide.proofs.Settled.{enough_longer}
use Rattle.rounding.specs.Mode.{Way, near, under, over}
use Rattle.rounding.proofs.Order.{compare_at}
use Rattle.decide.specs.Class.{tie, off, lean, alike, settled}
use Rattle.decide.proofs.Lean.{lean_rest}
use Rattle.lean.proofs.Plus.{settled_is}
use Rattle.narrow.specs.Lone.{Beyond}

-- the rest r of a last unit u is some, and no half of it
abbrev Side : ℕ → ℕ → Type 0
Side r u = (0 < r) × ((r * 2 < u) ⊎ (u < r * 2))

half_side : (D e : ℕ) → 1 ≤ D % 2 ^ e → Side (D % 2 ^ (1 + e)) (2 ^ (1 + e))
half_side D e h = go (D / 2 ^ e % 2 ^ 1) (D % 2 ^ (1 + e)) (2 ^ (1 + e)) (D % 2 ^ e) (2 ^ e) (mod-lt (D / 2 ^ e) (pow_pos 1)) (mod-pow-add D 1 e) (pow-add 2 1 e) h (mod-lt D (pow_pos e))
  where
    go : (b r u t h : ℕ) → b < 2 ^ 1 → r ≡ b * h + t → u ≡ 2 ^ 1 * h → 1 ≤ t → t < h → Side r u
    go zero r u t h lt m q a c = (omega arith, inl (omega arith))
    go (suc zero) r u t h lt m q a c = (omega arith, inr (omega arith))
    go (suc (suc b)) r u t h lt m q a c = absurd (omega arith)

module _ (p D : ℕ) (n : Beyond p D) where
  abbrev u : ℕ
  u = 2 ^ (size D - p)

  abbrev r : ℕ
  r = D % u

  side : Side r u
  side = subst (λ (m : ℕ). Side (D % 2 ^ m) (2 ^ m)) whole (half_side D (size D - p - 1) n.some)
    where
      whole : 1 + (size D - p - 1) ≡ size D - p
      whole = omega (arith, n.longer)

  flat : r + 0 ≡ r
  flat = add_none r
    where
      add_none : (n : ℕ) → n + 0 ≡ n
      add_none n = omega arith

  pub beyond_settles : (w : Way) → settled w p D false 0 true ≡ true
  unfolding off tie
  beyond_settles w =
      settled_is w p D false 0 true (enough_longer w p D n.longer) (lt-ltb (r + 0) u (rw flat (mod-lt D (pow_pos (size D - p)))))
      ∙ ap (λ (m : ℕ). alike (lean w (D / u) u r false) (lean w (D / u) u m true)) flat
      ∙ ap (λ (o : Ordering). alike o (lean w (D / u) u r true)) (lean_rest w (D / u) u r side.0 false)
      ∙ ap (alike (off w (D / u) u r false)) (lean_rest w (D / u) u r side.0 true)
      ∙ go w
    where
      one_side : (q r u : ℕ) → (r * 2 < u) ⊎ (u < r * 2) → alike (tie false q (compare (r * 2) u)) (tie true q (compare (r * 2) u)) ≡ true
      one_side q r u (inl h) = rw (compare_at Ordering.lt (r * 2) u h) refl
      one_side q r u (inr h) = rw (compare_at Ordering.gt (r * 2) u h) refl

      go : (w : Way) → alike (off w (D / u) u r false) (off w (D / u) u r true) ≡ true
      go near = one_side (D / u) r u side.1
      go under = refl
      go over = refl
