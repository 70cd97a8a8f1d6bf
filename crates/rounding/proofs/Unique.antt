-- What the paper asks of the rounded number leaves one choice, and it is `chosen`.
use mathlib.Core.Path.{◌≡◌, refl, sym, ap, ◌∙◌}
use mathlib.Core.Logic.{◌⊎◌, inl, inr}
use Prim.Native.Nat.{ℕ, zero, suc, ◌+◌, ◌-◌, ◌*◌, ◌/◌, ◌%◌, ◌^◌, ◌≤◌, ◌<◌, compare, Ordering}
use native.Mathlib.Nat.{le_trans, le_antisymm, suc-mul, pow-succ'}
use native.Mathlib.Decide.{ℕ_discrete}
use native.Mathlib.Omega.{arith}
use lib.Ieee.{size, nearest}
use Rattle.rounding.specs.Mode.{near, under, over}
use Rattle.rounding.specs.Select.{quotient, unit, chosen, on_grid}
use Rattle.rounding.specs.Answer.{digits}
use Rattle.rounding.proofs.Grid.{grid_under_unique, grid_over_unique, tied, flat}
use Rattle.rounding.proofs.Selection.{Rep, digits_grid, gap, parts, rest_lt, digits_lt, chosen_rep, near_closest}
use Rattle.rounding.proofs.Order.{dist, Cmp, cmp}
use Rattle.rounding.proofs.Even.{digits_of, tie_full, below_half, above_half}

pub under_unique : (p m n : ℕ) → 0 < p → Rep p n → n ≤ m → ((k : ℕ) → Rep p k → k ≤ m → k ≤ n) → n ≡ chosen under p m
unfolding chosen
under_unique p m n P r h f = grid_under_unique (Rep p) m (unit p m) (digits_grid p m P) n r h f

pub over_unique : (p m n : ℕ) → 0 < p → Rep p n → m ≤ n → ((k : ℕ) → Rep p k → m ≤ k → n ≤ k) → n ≡ chosen over p m
unfolding chosen
over_unique p m n P r h f = grid_over_unique (Rep p) m (unit p m) (digits_grid p m P) n r h f

-- at q units, p digits of them; and q + 1 still has p digits if q is even
odd_units : (p m q : ℕ) → 2 ^ p ≤ q → q < 2 ^ suc p → digits (suc p) (q * unit (suc p) m) ≡ q
unfolding unit
odd_units p m q h l = digits_of p q (size m - suc p) h l

even_room : (p q : ℕ) → q < 2 ^ suc p → q % 2 ≡ 0 → suc q < 2 ^ suc p
even_room p q h e = go (2 ^ p) (pow-succ' 2 p)
  where
    go : (b : ℕ) → 2 ^ suc p ≡ 2 * b → suc q < 2 ^ suc p
    go b f = omega arith

pub near_unique : (p m n : ℕ) → 1 ≤ p → Rep (suc p) n → ((k : ℕ) → Rep (suc p) k → dist n m ≤ dist k m)
    → ((k : ℕ) → Rep (suc p) k → (k ≡ n → ⊥) → dist k m ≡ dist n m → digits (suc p) n % 2 ≡ 0) → n ≡ chosen near (suc p) m
unfolding chosen on_grid quotient
near_unique p m n P r f g = go (compare (m % u * 2) u) (cmp (m % u * 2) u) (f S R) (near_closest (suc p) m n pos r) (λ ne e. g S R ne e)
  where
    u : ℕ
    u = unit (suc p) m

    q : ℕ
    q = m / unit (suc p) m

    S : ℕ
    S = chosen near (suc p) m

    pos : 0 < suc p
    pos = omega arith

    R : Rep (suc p) S
    R = chosen_rep near (suc p) m pos

    hop : (n ≤ q * u) ⊎ (q * u + u ≤ n)
    hop = gap (suc p) m n pos r

    go : (o : Ordering) → Cmp o (m % u * 2) u → dist n m ≤ dist (nearest q o * u) m → dist (nearest q o * u) m ≤ dist n m
        → ((nearest q o * u ≡ n → ⊥) → dist (nearest q o * u) m ≡ dist n m → digits (suc p) n % 2 ≡ 0) → n ≡ nearest q o * u
    go Ordering.lt c a b t = below_half (q * u) u (m % u) m n (parts (suc p) m) (rest_lt (suc p) m) hop c (le_antisymm a b)
    go Ordering.gt c a b t = above_half (q * u) u (m % u) m n (parts (suc p) m) (rest_lt (suc p) m) hop c (le_antisymm a b ∙ ap (λ (x : ℕ). dist x m) (suc-mul q u)) ∙ sym (suc-mul q u)
    go Ordering.eq c a b t = pick (ℕ_discrete ((q + q % 2) * u) n)
      where
        pick : Dec ((q + q % 2) * u ≡ n) → n ≡ (q + q % 2) * u
        pick (yes e) = sym e
        pick (no ne) = absurd (clash (q % 2) refl (tied (q * u) u (m % u) m n (parts (suc p) m) c hop (le_trans (f (chosen under (suc p) m) (chosen_rep under (suc p) m pos)) (flat (q * u) (m % u) m (parts (suc p) m)))))
          where
            even : digits (suc p) n % 2 ≡ 0
            even = t ne (le_antisymm b a)

            full : 2 ^ p ≤ q
            full = tie_full p m c

            clash : (b : ℕ) → q % 2 ≡ b → (n ≡ q * u) ⊎ (n ≡ q * u + u) → ⊥
            clash zero e (inl d) = ne (ap (λ (x : ℕ). (q + x) * u) e ∙ omega (arith, d))
            clash zero e (inr d) = two q e (sym (ap (λ (x : ℕ). x % 2) (ap (digits (suc p)) (d ∙ sym (suc-mul q u)) ∙ odd_units p m (suc q) (le_trans full (up q)) (even_room p q (digits_lt (suc p) m) e))) ∙ even)
              where
                up : (q : ℕ) → q ≤ suc q
                up q = omega arith

                two : (q : ℕ) → q % 2 ≡ 0 → suc q % 2 ≡ 0 → ⊥
                two q e f = omega arith
            clash (suc zero) e (inl d) = two q e (sym (ap (λ (x : ℕ). x % 2) (ap (digits (suc p)) d ∙ odd_units p m q full (digits_lt (suc p) m))) ∙ even)
              where
                two : (q : ℕ) → q % 2 ≡ 1 → q % 2 ≡ 0 → ⊥
                two q e f = omega arith
            clash (suc zero) e (inr d) = ne (ap (λ (x : ℕ). (q + x) * u) e ∙ omega (arith, d))
            clash (suc (suc b)) e d = three q b e
              where
                three : (q b : ℕ) → q % 2 ≡ suc (suc b) → ⊥
                three q b e = omega arith
