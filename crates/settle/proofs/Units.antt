-- Remainders by a power of two: of the number one less, and parity.
use mathlib.Core.Path.{◌≡◌, refl, sym, ap, ◌∙◌, subst}
use mathlib.Core.Logic.{◌⊎◌, inl, inr}
use mathlib.Core.Bool.{not}
use Prim.Native.Nat.{ℕ, zero, suc, ◌+◌, ◌-◌, ◌*◌, ◌/◌, ◌%◌, ◌^◌, ◌≤◌, ◌<◌}
use native.Mathlib.Nat.{le_of_eq, lt_of_le_of_lt, suc-mod, mod-lt, mod_self, mod-eq_of_lt, mul-mod_left, div-add-mod', pow-succ'}
use native.Mathlib.Omega.{arith}
use lib.Dec.{eqb}
use lib.Pow.{pow_pos, pow-add, mod-mod-pow}
use lib.Ieee.{size}
use lib.Ieee.Digits.{size-lt, size_reaches}
use Rattle.rounding.proofs.Order.{le_or_lt, mul_one_one}
use Rattle.limb.proofs.Sizes.{size_is}

-- odd is not even
pub odd_even : (q : ℕ) → eqb (q % 2) 1 ≡ not (eqb (q % 2) 0)
odd_even q = go (q % 2) (two q)
  where
    two : (q : ℕ) → q % 2 < 2
    two q = omega arith

    go : (b : ℕ) → b < 2 → eqb b 1 ≡ not (eqb b 0)
    go zero h = refl
    go (suc zero) h = refl
    go (suc (suc b)) h = absurd (omega arith)

-- 2 ^ k is 1 or even
halves : (k : ℕ) → (h : ℕ) × (2 ^ suc k ≡ h * 2)
halves k = (2 ^ k, go (2 ^ k) (2 ^ suc k) (pow-succ' 2 k))
  where
    go : (a b : ℕ) → b ≡ 2 * a → b ≡ a * 2
    go a b e = omega arith

pub one_or_even : (k : ℕ) → (2 ^ k ≡ 1) ⊎ ((h : ℕ) × (2 ^ k ≡ h * 2))
one_or_even zero = inl refl
one_or_even (suc k) = inr (halves k)

pub even_power : (s p : ℕ) → p < s → (h : ℕ) × (2 ^ (s - p) ≡ h * 2)
even_power s p l = go (s - p) (omega arith)
  where
    go : (k : ℕ) → 0 < k → (h : ℕ) × (2 ^ k ≡ h * 2)
    go zero h = absurd (omega arith)
    go (suc k) h = halves k

-- only an even power has a half
pub power_halved : (s p r : ℕ) → p ≤ s → r * 2 ≡ 2 ^ (s - p) → p < s
power_halved s p r l e = elim (le_or_lt s p) [ inr h ↦ h | inl h ↦ absurd (odd r (e ∙ ap (λ (k : ℕ). 2 ^ k) (none h l))) ]
  where
    none : s ≤ p → p ≤ s → s - p ≡ 0
    none h l = omega arith

    odd : (r : ℕ) → r * 2 ≡ 1 → ⊥
    odd r e = omega arith

-- D is one more than n
module _ (D n : ℕ) (is : suc n ≡ D) (u : ℕ) (pos : 0 < u) where
  step : suc (n % u) % u ≡ D % u
  step = sym (suc-mod n u) ∙ ap (λ (v : ℕ). v % u) is

  -- before a whole number of units
  pub before_whole : D % u ≡ 0 → suc (n % u) ≡ u
  before_whole z = elim (le_or_lt u (suc (n % u))) [
    | inl h ↦ omega (arith, mod-lt n pos)
    | inr h ↦ absurd (omega (arith, mod-eq_of_lt h, step))
  ]

  -- within a unit
  pub within : 0 < D % u → suc (n % u) ≡ D % u
  within z = elim (le_or_lt u (suc (n % u))) [
    | inl h ↦
        let e : suc (n % u) ≡ u = omega (arith, mod-lt n pos) in
        absurd (omega (arith, step, ap (λ (v : ℕ). v % u) e, mod_self u))
    | inr h ↦ sym (mod-eq_of_lt h) ∙ step
  ]

  pub within_quotient : 0 < D % u → n / u ≡ D / u
  within_quotient z = mul_one_one (n / u) (D / u) u pos (omega (arith, within z, div-add-mod' n u, div-add-mod' D u))

-- fewer digits below: still none
pub whole_less : (D j k : ℕ) → k ≤ j → D % 2 ^ j ≡ 0 → D % 2 ^ k ≡ 0
whole_less D j k l e = sym (mod-mod-pow D (j - k) k) ∙ ap (λ (v : ℕ). D % 2 ^ v % 2 ^ k) (back l) ∙ ap (λ (v : ℕ). v % 2 ^ k) e ∙ zeros
  where
    back : k ≤ j → j - k + k ≡ j
    back l = omega arith

    zeros : 0 % 2 ^ k ≡ 0
    zeros = mod-eq_of_lt (pow_pos k)

-- a number that is not a whole number of units is no power of two: one less has as many digits
pub size_within : (p D n : ℕ) → suc n ≡ D → 0 < p → p ≤ size D → 0 < D % 2 ^ (size D - p) → size n ≡ size D
size_within p D n is P l z = go (size D) refl l z
  where
    lower : (s : ℕ) → size D ≡ suc s → p ≤ suc s → 0 < D % 2 ^ (suc s - p) → 2 ^ s ≤ n
    lower s e l z = elim (le_or_lt (2 ^ s) n) [
      | inl h ↦ h
      | inr h ↦
          let d : D ≡ 2 ^ (p - 1) * 2 ^ (suc s - p) = whole (omega (arith, size_reaches D s (le_of_eq (sym e)))) in
          absurd (omega (arith, ap (λ (v : ℕ). v % 2 ^ (suc s - p)) d, mul-mod_left (2 ^ (p - 1)) (2 ^ (suc s - p))))
    ]
      where
        whole : D ≡ 2 ^ s → D ≡ 2 ^ (p - 1) * 2 ^ (suc s - p)
        whole e = e ∙ ap (λ (v : ℕ). 2 ^ v) (parts P l) ∙ pow-add 2 (p - 1) (suc s - p)
          where
            parts : 0 < p → p ≤ suc s → s ≡ p - 1 + (suc s - p)
            parts P l = omega arith

    go : (s : ℕ) → size D ≡ s → p ≤ s → 0 < D % 2 ^ (s - p) → size n ≡ s
    go zero e l z = absurd (omega arith)
    go (suc s) e l z = size_is n s (lower s e l z) (lt_of_le_of_lt (below is) (subst (λ (v : ℕ). D < 2 ^ v) e (size-lt D)))
      where
        below : suc n ≡ D → n ≤ D
        below is = omega arith
