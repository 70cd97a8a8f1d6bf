-- Selection over an arbitrary unit u: whatever the numbers to select from are, if near m they are the multiples of u,
-- `on_grid` selects the largest not above m, the smallest not below, and the closest. p digits are one choice of u. Assumes nothing.
use mathlib.Core.Path.{◌≡◌, refl, sym, ap, ◌∙◌, subst}
use mathlib.Core.Logic.{◌⊎◌, inl, inr}
use Prim.Native.Nat.{ℕ, zero, suc, ◌+◌, ◌-◌, ◌*◌, ◌/◌, ◌%◌, ◌≤◌, ◌<◌, compare, Ordering}
use native.Mathlib.Nat.{le_of_suc-le-suc, le_refl, le_trans, le_of_eq, le_of_lt, le_antisymm, mul-le-mul_right, suc-mul, div-add-mod', mod-lt, mul-div_cancel, le-div_iff_mul-le, div-lt_iff_lt-mul, div-mul-le_self, lt-div-mul-add}
use native.Mathlib.Decide.{ℕ_discrete}
use native.Mathlib.Omega.{arith}
use lib.Ieee.{nearest}
use lib.Ieee.Fits.{nearest-le}
use lib.Ieee.Nearest.{nearest-ge}
use Rattle.rounding.specs.Mode.{Way, near, under, over}
use Rattle.rounding.specs.Select.{quotient, on_grid}
use Rattle.rounding.proofs.Order.{le_or_lt, dist, Cmp, cmp}

-- near m the numbers of S are the multiples of u: none lies strictly between the two multiples around m, and both are of S
pub record Grid (S : ℕ → Type 0) (m u : ℕ) : Type 0 where
  pub positive : 0 < u
  pub gap : (n : ℕ) → S n → (n ≤ m / u * u) ⊎ (m / u * u + u ≤ n)
  pub lower : S (m / u * u)
  pub upper : S (m / u * u + u)

-- ---- each way goes from m / u: down, or up by one

pub quotient_ge : (w : Way) (m u : ℕ) → 0 < u → m / u ≤ quotient w m u
unfolding quotient
quotient_ge near m u U = nearest-ge (m / u) (compare (m % u * 2) u)
quotient_ge under m u U = le_refl (m / u)
quotient_ge over m u U = (le-div_iff_mul-le U).1 (le_trans (div-mul-le_self m u) (more m u))
  where
    more : (m u : ℕ) → m ≤ m + (u - 1)
    more m u = omega arith

pub quotient_le : (w : Way) (m u : ℕ) → 0 < u → quotient w m u ≤ suc (m / u)
unfolding quotient
quotient_le near m u U = nearest-le (m / u) (compare (m % u * 2) u)
quotient_le under m u U = step (m / u)
  where
    step : (q : ℕ) → q ≤ suc q
    step q = omega arith
quotient_le over m u U = down ((m + (u - 1)) / u) (m / u) ((div-lt_iff_lt-mul U).1 (bound (m / u) (lt-div-mul-add U)))
  where
    bound : (q : ℕ) → m < q * u + u → m + (u - 1) < suc (suc q) * u
    bound q h = omega arith

    down : (a b : ℕ) → a < suc (suc b) → a ≤ suc b
    down a b h = omega arith

either : (q c : ℕ) → q ≤ c → c ≤ suc q → (c ≡ q) ⊎ (c ≡ suc q)
either q c h k = elim (le_or_lt c q) [ inl l ↦ inl (le_antisymm l h) | inr l ↦ inr (le_antisymm k l) ]

-- `near` is the multiple of the unit below m, or the next, by which side of the middle the rest lies
near_at : (q u r : ℕ) (o : Ordering) → Cmp o (r * 2) u → ((nearest q o * u ≡ q * u) × (r * 2 ≤ u)) ⊎ ((nearest q o * u ≡ q * u + u) × (u ≤ r * 2))
near_at q u r Ordering.lt h = inl (refl, le_of_lt h)
near_at q u r Ordering.gt h = inr (suc-mul q u, le_of_lt h)
near_at q u r Ordering.eq h = go (q % 2) refl
  where
    go : (b : ℕ) → q % 2 ≡ b → (((q + q % 2) * u ≡ q * u) × (r * 2 ≤ u)) ⊎ (((q + q % 2) * u ≡ q * u + u) × (u ≤ r * 2))
    go zero e = inl (rw e (omega arith), le_of_eq h)
    go (suc zero) e = inr (rw e (omega arith), le_of_eq (sym h))
    go (suc (suc b)) e = absurd (two q b e)
      where
        two : (q b : ℕ) → q % 2 ≡ suc (suc b) → ⊥
        two q b e = omega arith

close : (a u r m n s : ℕ) → a + r ≡ m → r < u → (n ≤ a) ⊎ (a + u ≤ n) → ((s ≡ a) × (r * 2 ≤ u)) ⊎ ((s ≡ a + u) × (u ≤ r * 2)) → dist s m ≤ dist n m
close a u r m n s e l (inl h) (inl k) = omega arith
close a u r m n s e l (inl h) (inr k) = omega arith
close a u r m n s e l (inr h) (inl k) = omega arith
close a u r m n s e l (inr h) (inr k) = omega arith

-- ---- the three laws, over any numbers S and any unit u

pub grid_under_le : (m u : ℕ) → on_grid under u m ≤ m
unfolding on_grid quotient
grid_under_le m u = div-mul-le_self m u

pub grid_over_ge : (m u : ℕ) → 0 < u → m ≤ on_grid over u m
unfolding on_grid quotient
grid_over_ge m u U = up ((m + (u - 1)) / u * u) (lt-div-mul-add U)
  where
    up : (x : ℕ) → m + (u - 1) < x + u → m ≤ x
    up x h = omega arith

module _ (S : ℕ → Type 0) (m u : ℕ) (g : Grid S m u) where
  pub grid_in : (w : Way) → S (on_grid w u m)
  unfolding on_grid
  grid_in w = elim (either (m / u) (quotient w m u) (quotient_ge w m u g.positive) (quotient_le w m u g.positive)) [
    | inl e ↦ subst (λ (c : ℕ). S (c * u)) (sym e) g.lower
    | inr e ↦ subst (λ (c : ℕ). S (c * u)) (sym e) (subst S (sym (suc-mul (m / u) u)) g.upper)
  ]

  pub grid_under_largest : (n : ℕ) → S n → n ≤ m → n ≤ on_grid under u m
  unfolding on_grid quotient
  grid_under_largest n r h = pick (g.gap n r)
    where
      clash : (a r : ℕ) → a + r ≡ m → r < u → a + u ≤ n → ⊥
      clash a r e l k = omega arith

      pick : (n ≤ m / u * u) ⊎ (m / u * u + u ≤ n) → n ≤ m / u * u
      pick (inl l) = l
      pick (inr l) = absurd (clash (m / u * u) (m % u) (div-add-mod' m u) (mod-lt m g.positive) l)

  pub grid_over_smallest : (n : ℕ) → S n → m ≤ n → on_grid over u m ≤ n
  unfolding on_grid quotient
  grid_over_smallest n r h = pick (g.gap n r)
    where
      to : (c : ℕ) → (m + (u - 1)) / u ≤ c → c * u ≤ n → (m + (u - 1)) / u * u ≤ n
      to c l k = le_trans (mul-le-mul_right u l) k

      low : (a : ℕ) → 0 < u → m ≤ a → m + (u - 1) < a + u
      low a U l = omega arith

      pick : (n ≤ m / u * u) ⊎ (m / u * u + u ≤ n) → (m + (u - 1)) / u * u ≤ n
      pick (inl l) =
          let q = m / u in
          to q (le_of_suc-le-suc ((div-lt_iff_lt-mul g.positive).1 (rw suc-mul (low (q * u) g.positive (le_trans h l))))) (le_trans (div-mul-le_self m u) h)
      pick (inr l) = to (suc (m / u)) (quotient_le over m u g.positive) (rw suc-mul l)

  pub grid_near_closest : (n : ℕ) → S n → dist (on_grid near u m) m ≤ dist n m
  unfolding on_grid quotient
  grid_near_closest n r =
      close (m / u * u) u (m % u) m n (nearest (m / u) (compare (m % u * 2) u) * u) (div-add-mod' m u) (mod-lt m g.positive) (g.gap n r)
      (near_at (m / u) u (m % u) (compare (m % u * 2) u) (cmp (m % u * 2) u))

-- ---- what the laws ask leaves one choice

-- off the middle only one is closest
pub below_half : (a u r m n : ℕ) → a + r ≡ m → r < u → (n ≤ a) ⊎ (a + u ≤ n) → r * 2 < u → dist n m ≡ dist a m → n ≡ a
below_half a u r m n e l (inl h) c d = omega arith
below_half a u r m n e l (inr h) c d = omega arith

pub above_half : (a u r m n : ℕ) → a + r ≡ m → r < u → (n ≤ a) ⊎ (a + u ≤ n) → u < r * 2 → dist n m ≡ dist (a + u) m → n ≡ a + u
above_half a u r m n e l (inl h) c d = omega arith
above_half a u r m n e l (inr h) c d = omega arith

-- in the middle both neighbours are
pub tied : (a u r m n : ℕ) → a + r ≡ m → r * 2 ≡ u → (n ≤ a) ⊎ (a + u ≤ n) → dist n m ≤ r → (n ≡ a) ⊎ (n ≡ a + u)
tied a u r m n e c (inl h) d = inl (omega arith)
tied a u r m n e c (inr h) d = inr (omega arith)

pub flat : (a r m : ℕ) → a + r ≡ m → dist a m ≤ r
flat a r m e = omega arith

module _ (S : ℕ → Type 0) (m u : ℕ) (g : Grid S m u) where
  pub grid_under_unique : (n : ℕ) → S n → n ≤ m → ((k : ℕ) → S k → k ≤ m → k ≤ n) → n ≡ on_grid under u m
  grid_under_unique n r h f = le_antisymm (grid_under_largest S m u g n r h) (f (on_grid under u m) (grid_in S m u g under) (grid_under_le m u))

  pub grid_over_unique : (n : ℕ) → S n → m ≤ n → ((k : ℕ) → S k → m ≤ k → n ≤ k) → n ≡ on_grid over u m
  grid_over_unique n r h f = le_antisymm (f (on_grid over u m) (grid_in S m u g over) (grid_over_ge m u g.positive)) (grid_over_smallest S m u g n r h)

  -- where another is as close, the number of units is even
  pub grid_near_even : (n : ℕ) → S n → (n ≡ on_grid near u m → ⊥) → dist n m ≡ dist (on_grid near u m) m → quotient near m u % 2 ≡ 0
  unfolding on_grid quotient
  grid_near_even n r ne e = go (compare (m % u * 2) u) (cmp (m % u * 2) u) ne e
    where
      q : ℕ
      q = m / u

      even_up : (q : ℕ) → (q + q % 2) % 2 ≡ 0
      even_up q = omega arith

      go : (o : Ordering) → Cmp o (m % u * 2) u → (n ≡ nearest q o * u → ⊥) → dist n m ≡ dist (nearest q o * u) m → nearest q o % 2 ≡ 0
      go Ordering.lt c ne e = absurd (ne (below_half (q * u) u (m % u) m n (div-add-mod' m u) (mod-lt m g.positive) (g.gap n r) c e))
      go Ordering.gt c ne e = absurd (ne (above_half (q * u) u (m % u) m n (div-add-mod' m u) (mod-lt m g.positive) (g.gap n r) c (e ∙ ap (λ (x : ℕ). dist x m) (suc-mul q u)) ∙ sym (suc-mul q u)))
      go Ordering.eq c ne e = even_up q

  -- the closest; where another is as close, the one of an even number of units
  pub grid_near_unique : (n : ℕ) → S n → ((k : ℕ) → S k → dist n m ≤ dist k m) → ((k : ℕ) → S k → (k ≡ n → ⊥) → dist k m ≡ dist n m → n / u % 2 ≡ 0) → n ≡ on_grid near u m
  unfolding on_grid quotient
  grid_near_unique n r f t = go (compare (m % u * 2) u) (cmp (m % u * 2) u) (f best R) (grid_near_closest S m u g n r) (λ ne e. t best R ne e)
    where
      best : ℕ
      best = on_grid near u m

      R : S best
      R = grid_in S m u g near

      q : ℕ
      q = m / u

      parts : q * u + m % u ≡ m
      parts = div-add-mod' m u

      rest : m % u < u
      rest = mod-lt m g.positive

      go : (o : Ordering) → Cmp o (m % u * 2) u → dist n m ≤ dist (nearest q o * u) m → dist (nearest q o * u) m ≤ dist n m
          → ((nearest q o * u ≡ n → ⊥) → dist (nearest q o * u) m ≡ dist n m → n / u % 2 ≡ 0) → n ≡ nearest q o * u
      go Ordering.lt c a b t = below_half (q * u) u (m % u) m n parts rest (g.gap n r) c (le_antisymm a b)
      go Ordering.gt c a b t = above_half (q * u) u (m % u) m n parts rest (g.gap n r) c (le_antisymm a b ∙ ap (λ (x : ℕ). dist x m) (suc-mul q u)) ∙ sym (suc-mul q u)
      go Ordering.eq c a b t = pick (ℕ_discrete ((q + q % 2) * u) n)
        where
          even : (q : ℕ) → q % 2 ≡ 0 → q ≡ q + q % 2
          even q e = omega arith

          odd : (q : ℕ) → suc q % 2 ≡ 0 → suc q ≡ q + q % 2
          odd q e = omega arith

          side : n / u % 2 ≡ 0 → (n ≡ q * u) ⊎ (n ≡ q * u + u) → n ≡ (q + q % 2) * u
          side e (inl d) = d ∙ ap (λ (x : ℕ). x * u) (even q (sym (ap (λ (x : ℕ). x % 2) (ap (λ (x : ℕ). x / u) d ∙ mul-div_cancel q g.positive)) ∙ e))
          side e (inr d) =
              let h : n ≡ suc q * u = d ∙ sym (suc-mul q u) in
              h ∙ ap (λ (x : ℕ). x * u) (odd q (sym (ap (λ (x : ℕ). x % 2) (ap (λ (x : ℕ). x / u) h ∙ mul-div_cancel (suc q) g.positive)) ∙ e))

          pick : Dec ((q + q % 2) * u ≡ n) → n ≡ (q + q % 2) * u
          pick (yes e) = sym e
          pick (no ne) = side (t ne (le_antisymm b a)) (tied (q * u) u (m % u) m n parts c (g.gap n r) (le_trans (f (q * u) g.lower) (flat (q * u) (m % u) m parts)))

-- ---- a larger number selects one that is no smaller

upper_half : (m s t : ℕ) → t < s → dist s m ≤ dist t m → s + t ≤ 2 * m
upper_half m s t l a = omega arith

lower_half : (n s t : ℕ) → t < s → dist t n ≤ dist s n → 2 * n ≤ s + t
lower_half n s t l b = omega arith

-- of two numbers in the wrong order each would be as close to the other's
crossed : (m n s t : ℕ) → m ≤ n → t < s → dist s m ≤ dist t m → dist t n ≤ dist s n → m ≡ n
crossed m n s t h l a b =
    let x = upper_half m s t l a in
    let y = lower_half n s t l b in
    omega arith

-- `pick` selects for each m among the numbers of S, by its own unit
module _ (S : ℕ → Type 0) (unit_of : ℕ → ℕ) (grid : (m : ℕ) → Grid S m (unit_of m)) where
  abbrev pick : Way → ℕ → ℕ
  pick w m = on_grid w (unit_of m) m

  pub grid_mono : (w : Way) (m n : ℕ) → m ≤ n → pick w m ≤ pick w n
  grid_mono under m n h = grid_under_largest S n (unit_of n) (grid n) (pick under m) (grid_in S m (unit_of m) (grid m) under) (le_trans (grid_under_le m (unit_of m)) h)
  grid_mono over m n h = grid_over_smallest S m (unit_of m) (grid m) (pick over n) (grid_in S n (unit_of n) (grid n) over) (le_trans h (grid_over_ge n (unit_of n) (grid n).positive))
  grid_mono near m n h = go (le_or_lt (pick near m) (pick near n))
    where
      go : (pick near m ≤ pick near n) ⊎ (pick near n < pick near m) → pick near m ≤ pick near n
      go (inl l) = l
      go (inr l) =
          le_of_eq (ap (λ (x : ℕ). pick near x)
          (crossed m n (pick near m) (pick near n) h l (grid_near_closest S m (unit_of m) (grid m) (pick near n) (grid_in S n (unit_of n) (grid n) near)) (grid_near_closest S n (unit_of n) (grid n) (pick near m) (grid_in S m (unit_of m) (grid m) near))))
