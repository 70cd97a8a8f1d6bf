-- What is selected is what the paper asks for, in each mode, against every p-digit number of either sign; and nothing else is.
-- The exact value is ± m, not zero. Counted in units 2 ^ j times smaller it is ± m × 2 ^ j: as j grows every p-digit number is met.
use mathlib.Core.Path.{◌≡◌, refl, sym, ◌∙◌, subst}
use mathlib.Core.Logic.{◌⊎◌, inl, inr}
use mathlib.Core.Bool.{Bool, true, false}
use Prim.Native.Nat.{ℕ, zero, suc, ◌+◌, ◌*◌, ◌%◌, ◌^◌, ◌≤◌, ◌<◌, compare, Ordering}
use native.Mathlib.Nat.{le_trans, le_of_eq, le_antisymm, mul-pos}
use native.Mathlib.Omega.{arith}
use lib.Pow.{pow_pos, pow-lt}
use Rattle.rounding.specs.Mode.{near, under, way}
use Rattle.rounding.specs.declared.Mode.{Mode}
use Rattle.rounding.specs.Select.{chosen}
use Rattle.rounding.specs.Answer.{digits, signed}
use Rattle.rounding.specs.Paper.{Same, Down, Up, ToZero, Nearest, Asks, Sign}
pub use Rattle.rounding.specs.Paper.{Le, apart}
use Rattle.rounding.proofs.Selection.{Rep, chosen_rep, under_le, under_largest, over_ge, over_smallest, near_closest, chosen_mono}
use Rattle.rounding.proofs.Order.{dist, Cmp, cmp}
use Rattle.rounding.proofs.Scale.{chosen_shift, chosen_pos}
use Rattle.rounding.proofs.Even.{near_even}
use Rattle.rounding.proofs.Unique.{under_unique, over_unique, near_unique}
use Rattle.rounding.specs.declared.Mode.TheVariants as mode

-- what `answer` selects for ± m
unfoldable pub selected : Mode → ℕ → Bool → ℕ → ℕ
selected o p n m = chosen (way o n) p m

one_digit : (p : ℕ) → 0 < p → Rep p 1
one_digit p P = record { digits = 1; shift = 0; few = pow-lt P; is = refl }

no_digit : (p : ℕ) → Rep p 0
no_digit p = record { digits = 0; shift = 0; few = pow_pos p; is = refl }

-- ---- each part of what is asked

pub down_below : (p : ℕ) (n : Bool) (m : ℕ) → Le n (selected mode.Downward p n m) n m
unfolding selected way
down_below p false m = under_le p m
down_below p true m = over_ge p m

pub down_largest : (p : ℕ) (n : Bool) (m : ℕ) → 0 < p → 0 < m → (t : Bool) (k : ℕ) → Rep p k → Le t k n m → Le t k n (selected mode.Downward p n m)
unfolding selected way
down_largest p false m P M false k r h = under_largest p m k P r h
down_largest p false m P M true k r h = tt
down_largest p true m P M true k r h = over_smallest p m k P r h
down_largest p true m P M false k r h = absurd (omega arith)

pub up_above : (p : ℕ) (n : Bool) (m : ℕ) → Le n m n (selected mode.Upward p n m)
unfolding selected way
up_above p false m = over_ge p m
up_above p true m = under_le p m

pub up_smallest : (p : ℕ) (n : Bool) (m : ℕ) → 0 < p → 0 < m → (t : Bool) (k : ℕ) → Rep p k → Le n m t k → Le n (selected mode.Upward p n m) t k
unfolding selected way
up_smallest p false m P M false k r h = over_smallest p m k P r h
up_smallest p false m P M true k r h = absurd (omega arith)
up_smallest p true m P M true k r h = under_largest p m k P r h
up_smallest p true m P M false k r h = tt

-- beyond zero nothing is closer than zero is
across : (m k s : ℕ) → dist s m ≤ dist 0 m → dist s m ≤ k + m
across m k s h = omega arith

pub nearest_closest : (p : ℕ) (n : Bool) (m : ℕ) → 0 < p → (t : Bool) (k : ℕ) → Rep p k → apart n (selected mode.Nearest p n m) n m ≤ apart t k n m
unfolding selected way
nearest_closest p false m P false k r = near_closest p m k P r
nearest_closest p true m P true k r = near_closest p m k P r
nearest_closest p false m P true k r = across m k (chosen near p m) (near_closest p m 0 P (no_digit p))
nearest_closest p true m P false k r = across m k (chosen near p m) (near_closest p m 0 P (no_digit p))

-- ---- all that is asked, in the unit of m

module _ (p : ℕ) (n : Bool) (m : ℕ) (P : 0 < p) (M : 0 < m) where
  fits : (o : Mode) → Rep p (selected o p n m)
  unfolding selected
  fits o = chosen_rep (way o n) p m P

  down : Down p n m n (selected mode.Downward p n m)
  down = record { fits = fits mode.Downward; not_above = down_below p n m; largest = down_largest p n m P M }

  up : Up p n m n (selected mode.Upward p n m)
  up = record { fits = fits mode.Upward; not_below = up_above p n m; smallest = up_smallest p n m P M }

-- what is not above in size is one of the two, and no larger than the other
toward_zero : (p : ℕ) (n : Bool) (m : ℕ) → 0 < p → 0 < m → ToZero p n m n (selected mode.Zeroward p n m)
unfolding selected way
toward_zero p false m P M = record { one = inl (down p false m P M); nearer = nearer }
  where
    nearer : (b : Bool) (k : ℕ) → Down p false m b k ⊎ Up p false m b k → chosen under p m ≤ k
    nearer false k (inl d) = d.largest false (chosen under p m) (chosen_rep under p m P) (under_le p m)
    nearer true k (inl d) = let h = d.largest false (chosen under p m) (chosen_rep under p m P) (under_le p m) in omega arith
    nearer false k (inr u) = le_trans (under_le p m) u.not_below
    nearer true k (inr u) = let h = u.not_below in absurd (omega arith)
toward_zero p true m P M = record { one = inr (up p true m P M); nearer = nearer }
  where
    nearer : (b : Bool) (k : ℕ) → Down p true m b k ⊎ Up p true m b k → chosen under p m ≤ k
    nearer true k (inl d) = le_trans (under_le p m) d.not_above
    nearer false k (inl d) = let h = d.not_above in absurd (omega arith)
    nearer true k (inr u) = u.smallest true (chosen under p m) (chosen_rep under p m P) (under_le p m)
    nearer false k (inr u) = let h = u.smallest true (chosen under p m) (chosen_rep under p m P) (under_le p m) in omega arith

closest_even : (p : ℕ) (n : Bool) (m : ℕ) → 2 ≤ p → 0 < m → Nearest p n m n (selected mode.Nearest p n m)
unfolding selected way
closest_even zero n m P M = absurd (omega arith)
closest_even (suc p) n m P M = record { fits = chosen_rep near (suc p) m (some p); closest = nearest_closest (suc p) n m (some p); even = even n }
  where
    S : ℕ
    S = chosen near (suc p) m

    some : (p : ℕ) → 0 < suc p
    some p = omega arith

    two : 1 ≤ p
    two = omega arith

    -- beyond zero only zero itself could be as close
    beyond : (k s : ℕ) → dist s m ≤ dist 0 m → k + m ≡ dist s m → dist 0 m ≡ dist s m
    beyond k s h e = omega arith

    zero_tied : (k : ℕ) → k + m ≡ dist S m → digits (suc p) S % 2 ≡ 0
    zero_tied k e = near_even p m 0 two (no_digit (suc p)) (λ z. void S (chosen_pos near (suc p) m (some p) M) z) (beyond k S (near_closest (suc p) m 0 (some p) (no_digit (suc p))) e)
      where
        void : (s : ℕ) → 0 < s → 0 ≡ s → ⊥
        void s h e = omega arith

    even : (n b : Bool) (k : ℕ) → Rep (suc p) k → (Same b k n S → ⊥) → apart b k n m ≡ apart n S n m → digits (suc p) S % 2 ≡ 0
    even false false k r ne e = near_even p m k two r (λ z. ne (le_of_eq z, le_of_eq (sym z))) e
    even true true k r ne e = near_even p m k two r (λ z. ne (le_of_eq (sym z), le_of_eq z)) e
    even false true k r ne e = zero_tied k e
    even true false k r ne e = zero_tied k e

-- ---- all that is asked, in every unit

module _ (p : ℕ) (n : Bool) (m j : ℕ) (P : 2 ≤ p) (M : 0 < m) where
  one : 0 < p
  one = omega arith

  finer : 0 < m * 2 ^ j
  finer = mul-pos M (pow_pos j)

  same : (o : Mode) → selected o p n (m * 2 ^ j) ≡ selected o p n m * 2 ^ j
  unfolding selected
  same o = chosen_shift (way o n) p m j one

  pub selected_is_down : Down p n (m * 2 ^ j) n (selected mode.Downward p n m * 2 ^ j)
  selected_is_down = subst (Down p n (m * 2 ^ j) n) (same mode.Downward) (down p n (m * 2 ^ j) one finer)

  pub selected_is_up : Up p n (m * 2 ^ j) n (selected mode.Upward p n m * 2 ^ j)
  selected_is_up = subst (Up p n (m * 2 ^ j) n) (same mode.Upward) (up p n (m * 2 ^ j) one finer)

  pub selected_is_toward_zero : ToZero p n (m * 2 ^ j) n (selected mode.Zeroward p n m * 2 ^ j)
  selected_is_toward_zero = subst (ToZero p n (m * 2 ^ j) n) (same mode.Zeroward) (toward_zero p n (m * 2 ^ j) one finer)

  pub selected_is_nearest : Nearest p n (m * 2 ^ j) n (selected mode.Nearest p n m * 2 ^ j)
  selected_is_nearest = subst (Nearest p n (m * 2 ^ j) n) (same mode.Nearest) (closest_even p n (m * 2 ^ j) P finer)

  pub selected_is_asked : (o : Mode) → Asks o p n (m * 2 ^ j) n (selected o p n m * 2 ^ j)
  selected_is_asked mode.Nearest = selected_is_nearest
  selected_is_asked mode.Zeroward = selected_is_toward_zero
  selected_is_asked mode.Upward = selected_is_up
  selected_is_asked mode.Downward = selected_is_down

-- ---- nothing else is what is asked

pub down_unique : (p : ℕ) (n : Bool) (m : ℕ) (t : Bool) (c : ℕ) → 0 < p → 0 < m → Down p n m t c → (t ≡ n) × (c ≡ selected mode.Downward p n m)
unfolding selected way
down_unique p false m false c P M d = (refl, under_unique p m c P d.fits d.not_above (d.largest false))
down_unique p true m true c P M d = (refl, over_unique p m c P d.fits d.not_above (d.largest true))
down_unique p false m true c P M d = let h = d.largest false 1 (one_digit p P) M in absurd (omega arith)
down_unique p true m false c P M d = let h = d.not_above in absurd (omega arith)

pub up_unique : (p : ℕ) (n : Bool) (m : ℕ) (t : Bool) (c : ℕ) → 0 < p → 0 < m → Up p n m t c → (t ≡ n) × (c ≡ selected mode.Upward p n m)
unfolding selected way
up_unique p false m false c P M d = (refl, over_unique p m c P d.fits d.not_below (d.smallest false))
up_unique p true m true c P M d = (refl, under_unique p m c P d.fits d.not_below (d.smallest true))
up_unique p false m true c P M d = let h = d.not_below in absurd (omega arith)
up_unique p true m false c P M d = let h = d.smallest true 1 (one_digit p P) M in absurd (omega arith)

pub toward_zero_unique : (p : ℕ) (n : Bool) (m : ℕ) (t : Bool) (c : ℕ) → 0 < p → 0 < m → ToZero p n m t c → (t ≡ n) × (c ≡ selected mode.Zeroward p n m)
toward_zero_unique p n m t c P M d =
    let z = toward_zero p n m P M in
    (sign d.one, le_antisymm (d.nearer n (selected mode.Zeroward p n m) z.one) (z.nearer t c d.one))
  where
    sign : Down p n m t c ⊎ Up p n m t c → t ≡ n
    sign (inl x) = (down_unique p n m t c P M x).0
    sign (inr x) = (up_unique p n m t c P M x).0

pub nearest_unique : (p : ℕ) (n : Bool) (m : ℕ) (t : Bool) (c : ℕ) → 2 ≤ p → 0 < m → Nearest p n m t c → (t ≡ n) × (c ≡ selected mode.Nearest p n m)
unfolding selected way
nearest_unique zero n m t c P M d = absurd (omega arith)
nearest_unique (suc p) n m t c P M d = go n t d.fits d.closest d.even
  where
    two : 1 ≤ p
    two = omega arith

    some : (p : ℕ) → 0 < suc p
    some p = omega arith

    -- 1 is closer than all that lies beyond zero
    closer : c + m ≤ dist 1 m → ⊥
    closer h = omega arith

    go : (n t : Bool) → Rep (suc p) c → ((b : Bool) (k : ℕ) → Rep (suc p) k → apart t c n m ≤ apart b k n m)
        → ((b : Bool) (k : ℕ) → Rep (suc p) k → (Same b k t c → ⊥) → apart b k n m ≡ apart t c n m → digits (suc p) c % 2 ≡ 0) → (t ≡ n) × (c ≡ chosen near (suc p) m)
    go false false r f g = (refl, near_unique p m c two r (f false) (λ k s ne e. g false k s (λ x. ne (le_antisymm x.0 x.1)) e))
    go true true r f g = (refl, near_unique p m c two r (f true) (λ k s ne e. g true k s (λ x. ne (le_antisymm x.1 x.0)) e))
    go false true r f g = absurd (closer (f false 1 (one_digit (suc p) (some p))))
    go true false r f g = absurd (closer (f true 1 (one_digit (suc p) (some p))))

pub asked_unique : (o : Mode) (p : ℕ) (n : Bool) (m : ℕ) (t : Bool) (c : ℕ) → 2 ≤ p → 0 < m → Asks o p n m t c → (t ≡ n) × (c ≡ selected o p n m)
asked_unique mode.Nearest p n m t c P M d = nearest_unique p n m t c P M d
asked_unique mode.Zeroward p n m t c P M d = toward_zero_unique p n m t c (omega arith) M d
asked_unique mode.Upward p n m t c P M d = up_unique p n m t c (omega arith) M d
asked_unique mode.Downward p n m t c P M d = down_unique p n m t c (omega arith) M d

pub asked_once : (o : Mode) (p : ℕ) (n : Bool) (m : ℕ) (t : Bool) (c : ℕ) (b : Bool) (k : ℕ) → 2 ≤ p → 0 < m → Asks o p n m t c → Asks o p n m b k → (t ≡ b) × (c ≡ k)
asked_once o p n m t c b k P M d e =
    let x = asked_unique o p n m t c P M d in
    let y = asked_unique o p n m b k P M e in
    (x.0 ∙ sym y.0, x.1 ∙ sym y.1)

-- ---- a larger value selects one that is no smaller

pub selected_monotone : (o : Mode) (p : ℕ) (n : Bool) (m : ℕ) (t : Bool) (k : ℕ) → 0 < p → 0 < m → Le n m t k → Le n (selected o p n m) t (selected o p t k)
unfolding selected
selected_monotone o p false m false k P M h = chosen_mono (way o false) p m k P h
selected_monotone o p true m true k P M h = chosen_mono (way o true) p k m P h
selected_monotone o p true m false k P M h = tt
selected_monotone o p false m true k P M h = absurd (omega arith)

-- ---- the ternary value

-- the order of ± c and ± m, of one sign
abbrev pub Side : Ordering → Bool → ℕ → ℕ → Type 0
Side o false c m = Cmp o c m
Side o true c m = Cmp o m c

pub ternary : (n : Bool) (c m : ℕ) → Side (signed n (compare c m)) n c m
unfolding signed
ternary false c m = cmp c m
ternary true c m = go (compare c m) (cmp c m)
  where
    go : (o : Ordering) → Cmp o c m → Cmp (signed true o) m c
    go Ordering.lt h = h
    go Ordering.eq h = sym h
    go Ordering.gt h = h

pub ternary_is_sign : (n : Bool) (c m : ℕ) → Sign (signed n (compare c m)) n c n m
ternary_is_sign n c m = go (signed n (compare c m)) n (ternary n c m)
  where
    go : (o : Ordering) (n : Bool) → Side o n c m → Sign o n c n m
    go Ordering.lt false h = λ k. omega arith
    go Ordering.lt true h = λ k. omega arith
    go Ordering.eq false h = (le_of_eq h, le_of_eq (sym h))
    go Ordering.eq true h = (le_of_eq h, le_of_eq (sym h))
    go Ordering.gt false h = λ k. omega arith
    go Ordering.gt true h = λ k. omega arith
