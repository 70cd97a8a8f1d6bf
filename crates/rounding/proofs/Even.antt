-- On a tie, the last digit of what is selected is 0.
use mathlib.Core.Path.{◌≡◌, refl, sym, ap, ◌∙◌, subst}
use mathlib.Core.Logic.{◌⊎◌, inl, inr}
use Prim.Native.Nat.{ℕ, zero, suc, ◌+◌, ◌-◌, ◌*◌, ◌/◌, ◌%◌, ◌^◌, ◌≤◌, ◌<◌, compare, Ordering}
use native.Mathlib.Nat.{suc-mul, le_refl, le_trans, le_of_eq, lt_of_lt_of_le, le_antisymm, mul_assoc, mul-le-mul_right, mul-lt-mul_of_pos_right, pow-suc, mul-mod_left, le-div_iff_mul-le}
use native.Mathlib.Omega.{arith}
use lib.Pow.{pow_pos, pow-add, pow-lt}
use lib.Ieee.{size, nearest}
use lib.Ieee.Fits.{nearest-le}
use lib.Ieee.Nearest.{nearest-ge}
use Rattle.limb.proofs.Sizes.{size_is}
use Rattle.rounding.specs.Mode.{near}
use Rattle.rounding.specs.Select.{quotient, unit, chosen, on_grid}
use Rattle.rounding.specs.Answer.{digits}
pub use Rattle.rounding.proofs.Grid.{below_half, above_half}
use Rattle.rounding.proofs.Selection.{Rep, gap, parts, rest_lt, digits_lt, reaches}
use Rattle.rounding.proofs.Order.{le_or_lt, dist, Cmp, cmp, mul_one_one}
use Rattle.rounding.proofs.Between.{digits_exact}

-- ---- a number's digits

pub digits_of : (p q k : ℕ) → 2 ^ p ≤ q → q < 2 ^ suc p → digits (suc p) (q * 2 ^ k) ≡ q
digits_of p q k h l =
    let c = q * 2 ^ k in
    let z : size c ≡ suc (p + k) = size_is c (p + k) (le_trans (le_of_eq (pow-add 2 p k)) (mul-le-mul_right (2 ^ k) h)) (lt_of_lt_of_le (mul-lt-mul_of_pos_right l (pow_pos k)) (le_of_eq (sym (pow-add 2 (suc p) k) ∙ ap (λ (x : ℕ). 2 ^ x) (shift p k)))) in
    mul_one_one (digits (suc p) c) q (2 ^ size c) (pow_pos (size c))
    (digits_exact (suc p) c (record { digits = q; shift = k; few = l; is = refl })
    ∙ mul_assoc q (2 ^ k) (2 ^ suc p) ∙ ap (λ (x : ℕ). q * x) (sym (pow-add 2 k (suc p)) ∙ ap (λ (x : ℕ). 2 ^ x) (shift' p k ∙ sym z)))
  where
    shift : (p k : ℕ) → suc p + k ≡ suc (p + k)
    shift p k = omega arith

    shift' : (p k : ℕ) → k + suc p ≡ suc (p + k)
    shift' p k = omega arith

-- an even number of at most p digits, and not fewer: its last digit is 0, also where it is 2 ^ p and has one more
even_digits : (p q k : ℕ) → 1 ≤ p → 2 ^ p ≤ q → q ≤ 2 ^ suc p → q % 2 ≡ 0 → digits (suc p) (q * 2 ^ k) % 2 ≡ 0
even_digits zero q k P h l e = elim P [ ]
even_digits (suc p) q k P h l e = elim (le_or_lt (2 ^ suc (suc p)) q) [
  | inr g ↦ ap (λ (x : ℕ). x % 2) (digits_of (suc p) q k h g) ∙ e
  | inl g ↦
      let f : q * 2 ^ k ≡ 2 ^ suc p * 2 ^ suc k = ap (λ (x : ℕ). x * 2 ^ k) (le_antisymm l g) ∙ carry in
      ap (λ (x : ℕ). digits (suc (suc p)) x % 2) f ∙ ap (λ (x : ℕ). x % 2) (digits_of (suc p) (2 ^ suc p) (suc k) (le_refl (2 ^ suc p)) (pow-lt (below (suc p))) ∙ pow-suc 2 p) ∙ mul-mod_left (2 ^ p) 2
]
  where
    below : (p : ℕ) → p < suc p
    below p = omega arith

    carry : 2 ^ suc (suc p) * 2 ^ k ≡ 2 ^ suc p * 2 ^ suc k
    carry = sym (pow-add 2 (suc (suc p)) k) ∙ ap (λ (x : ℕ). 2 ^ x) (shift p) ∙ pow-add 2 (suc p) (suc k)
      where
        shift : (p : ℕ) → suc (suc p) + k ≡ suc p + suc k
        shift p = omega arith

-- ---- a tie

even_up : (q : ℕ) → (q + q % 2) % 2 ≡ 0
even_up q = omega arith

-- in the middle digits are cut off, so there are p of them
tie_cut : (p m : ℕ) → m % unit p m * 2 ≡ unit p m → 0 < size m - p
unfolding unit
tie_cut p m c = go (size m - p) c
  where
    go : (k : ℕ) → m % 2 ^ k * 2 ≡ 2 ^ k → 0 < k
    go zero c = omega arith
    go (suc k) c = omega arith

pub tie_full : (p m : ℕ) → m % unit (suc p) m * 2 ≡ unit (suc p) m → 2 ^ p ≤ m / unit (suc p) m
unfolding unit
tie_full p m c = (le-div_iff_mul-le (pow_pos (size m - suc p))).1 (subst (λ (x : ℕ). 2 ^ x * 2 ^ (size m - suc p) ≤ m) (pred p) (reaches (suc p) m 0 (pos p) (tie_cut (suc p) m c)))
  where
    pred : (p : ℕ) → suc p - 1 ≡ p
    pred p = omega arith

    pos : (p : ℕ) → 0 < suc p
    pos p = omega arith

pub near_even : (p m n : ℕ) → 1 ≤ p → Rep (suc p) n → (n ≡ chosen near (suc p) m → ⊥) → dist n m ≡ dist (chosen near (suc p) m) m → digits (suc p) (chosen near (suc p) m) % 2 ≡ 0
unfolding chosen on_grid quotient
near_even p m n P r ne e = go (compare (m % unit (suc p) m * 2) (unit (suc p) m)) (cmp (m % unit (suc p) m * 2) (unit (suc p) m)) ne e
  where
    u : ℕ
    u = unit (suc p) m

    q : ℕ
    q = m / unit (suc p) m

    pos : (p : ℕ) → 0 < suc p
    pos p = omega arith

    g : (n ≤ q * u) ⊎ (q * u + u ≤ n)
    g = gap (suc p) m n (pos p) r

    go : (o : Ordering) → Cmp o (m % u * 2) u → (n ≡ nearest q o * u → ⊥) → dist n m ≡ dist (nearest q o * u) m → digits (suc p) (nearest q o * u) % 2 ≡ 0
    go Ordering.lt c ne e = absurd (ne (below_half (q * u) u (m % u) m n (parts (suc p) m) (rest_lt (suc p) m) g c e))
    go Ordering.gt c ne e = absurd (ne (above_half (q * u) u (m % u) m n (parts (suc p) m) (rest_lt (suc p) m) g c (e ∙ ap (λ (x : ℕ). dist x m) (suc-mul q u)) ∙ sym (suc-mul q u)))
    go Ordering.eq c ne e = unfold unit in even_digits p (q + q % 2) (size m - suc p) P (le_trans (tie_full p m c) (nearest-ge q Ordering.eq)) (le_trans (nearest-le q Ordering.eq) (digits_lt (suc p) m)) (even_up q)
