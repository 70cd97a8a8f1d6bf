-- How many digits the selected number has, from what is read.
use mathlib.Core.Path.{◌≡◌, refl, sym, ap, ◌∙◌, subst}
use mathlib.Core.Logic.{◌⊎◌, inl, inr}
use mathlib.Core.Bool.{Bool, cond}
use Prim.Native.Nat.{ℕ, suc, ◌+◌, ◌-◌, ◌*◌, ◌/◌, ◌%◌, ◌^◌, ◌≤◌, ◌<◌, Ordering}
use native.Mathlib.Nat.{le_refl, le_trans, le_of_eq, lt_of_lt_of_le, le_antisymm, div-add-mod', mod-lt, pow-succ', le-div_iff_mul-le}
use native.Mathlib.Omega.{arith}
use borrow.Author.Tests.{eq-eqb, ne_eqb}
use lib.Dec.{eqb}
use lib.Pow.{pow_pos, pow-add}
use lib.Ieee.{size}
use lib.Ieee.Digits.{size-lt, size-le, size_reaches}
use lib.Ieee.Fits.{kept-lt}
use Rattle.rounding.specs.Mode.{Way}
use Rattle.rounding.specs.Select.{chosen}
use Rattle.rounding.proofs.Order.{le_or_lt, size_mono, zero_or}
use Rattle.limb.proofs.Sizes.{size_is, size_ge}
use Rattle.rounding.proofs.Scale.{size_shift}
use Rattle.decide.specs.Class.{lean, step}
use Rattle.decide.specs.Range.{bump, carry}
use Rattle.decide.proofs.Lean.{Part}
use Rattle.decide.proofs.Settled.{Enough, enough_le, halves, chosen_cut}

-- ---- q has p digits

pub size_pow : (p : ℕ) → size (2 ^ p) ≡ suc p
size_pow p = size_is (2 ^ p) p (le_refl (2 ^ p)) (lt_of_lt_of_le (twice (2 ^ p) (pow_pos p)) (le_of_eq (sym (pow-succ' 2 p))))
  where
    twice : (a : ℕ) → 0 < a → a < 2 * a
    twice a h = omega arith

pub size_suc : (p q : ℕ) → size q ≡ p → (suc q ≡ 2 ^ p → ⊥) → size (suc q) ≡ p
size_suc p q e n = le_antisymm (size-le (suc q) p (go (subst (λ (z : ℕ). q < 2 ^ z) e (size-lt q)))) (le_trans (le_of_eq (sym e)) (size_mono q (suc q) (omega arith)))
  where
    go : q < 2 ^ p → suc q < 2 ^ p
    go h = elim (le_or_lt (2 ^ p) (suc q)) [ inl k ↦ absurd (n (le_antisymm h k)) | inr k ↦ k ]

pub size_pos : (n : ℕ) → 0 < size n → 0 < n
size_pos n h = elim (zero_or n) [ inl e ↦ absurd (none (subst (λ (z : ℕ). 0 < size z) e h)) | inr k ↦ k ]
  where
    none : 0 < size 0 → ⊥
    none h = omega (arith, size-le 0 0 (pow_pos 0))

pub size_bump : (o : Ordering) (p q k : ℕ) → 0 < p → size q ≡ p → size (step o q * 2 ^ k) ≡ p + bump o p q + k
unfolding step bump
size_bump o p q k P e = go o
  where
    M : 0 < q
    M = size_pos q (le_trans P (le_of_eq (sym e)))

    stay : size (q * 2 ^ k) ≡ p + 0 + k
    stay = size_shift q k M ∙ ap (λ (z : ℕ). z + k) e ∙ omega arith

    up : (suc q ≡ 2 ^ p) ⊎ (suc q ≡ 2 ^ p → ⊥) → size (suc q * 2 ^ k) ≡ p + cond (eqb (suc q) (2 ^ p)) 1 0 + k
    up (inl f) = size_shift (suc q) k (omega arith) ∙ ap (λ (z : ℕ). z + k) (ap size f ∙ size_pow p) ∙ rw (eq-eqb (suc q) (2 ^ p) f) (omega arith)
    up (inr f) = size_shift (suc q) k (omega arith) ∙ ap (λ (z : ℕ). z + k) (size_suc p q e f) ∙ rw (ne_eqb (suc q) (2 ^ p) f) (omega arith)

    go : (o : Ordering) → size (step o q * 2 ^ k) ≡ p + bump o p q + k
    go Ordering.lt = stay
    go Ordering.eq = stay
    go Ordering.gt = up (elim (le_or_lt (2 ^ p) (suc q)) [ inl h ↦ inl (le_antisymm (subst (λ (z : ℕ). q < 2 ^ z) e (size-lt q)) h) | inr h ↦ inr (λ f. omega arith) ])

pub size_quot : (p m : ℕ) → 0 < p → p ≤ size m → size (m / 2 ^ (size m - p)) ≡ p
size_quot p m P h =
    let u = 2 ^ (size m - p) in
    let k : 2 ^ (p - 1) ≤ m / u = (le-div_iff_mul-le (pow_pos (size m - p))).1 (le_trans (le_of_eq (sym (pow-add 2 (p - 1) (size m - p)))) (size_reaches m (p - 1 + (size m - p)) (inside (size m) h))) in
    le_antisymm (size-le (m / u) p (kept-lt p m)) (le_trans (le_of_eq (one p P)) (size_ge (m / u) (p - 1) k))
  where
    inside : (z : ℕ) → p ≤ z → p - 1 + (z - p) < z
    inside z h = omega arith

    one : (p : ℕ) → 0 < p → p ≡ suc (p - 1)
    one p P = omega arith

-- ---- enough digits

pub size_enough : (w : Way) (p m j a : ℕ) (more : Bool) → 0 < p → Enough w p m → Part more (2 ^ j) a → size (chosen w p (m * 2 ^ j + a)) ≡ size m + carry w p m more + j
unfolding carry
size_enough w p m j a more P e part =
    let u = 2 ^ (size m - p) in
    let q = m / u in
    let r = m % u in
    let h = enough_le w p m e in
    let o = lean w q u r more in
    ap size (chosen_cut w p m j a more (size_pos m (le_trans P h)) part h q u r refl (sym (div-add-mod' m u)) (mod-lt m (pow_pos (size m - p))) (halves w p m e))
    ∙ ap (λ (z : ℕ). size (step o q * z)) (sym (pow-add 2 (size m - p) j))
    ∙ size_bump o p q (size m - p + j) P (size_quot p m P h)
    ∙ back (size m) (bump o p q) h
  where
    back : (z b : ℕ) → p ≤ z → p + b + (z - p + j) ≡ z + b + j
    back z b h = omega arith
