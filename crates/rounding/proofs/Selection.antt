-- p digits as a grid: what `chosen` selects is what the paper says, on sizes. Assumes nothing.
use mathlib.Core.Path.{◌≡◌, refl, sym, ap, ◌∙◌, subst}
use mathlib.Core.Logic.{◌⊎◌, inl, inr}
use Prim.Native.Nat.{ℕ, suc, ◌+◌, ◌-◌, ◌*◌, ◌/◌, ◌%◌, ◌^◌, ◌≤◌, ◌<◌}
use native.Mathlib.Nat.{le_trans, le_of_eq, le_of_lt, lt_of_lt_of_le, le_antisymm, mul_assoc, mul-le-mul_right, mul-lt-mul_of_pos_right, suc-mul, div-add-mod', mod-lt, le-div_iff_mul-le}
use native.Mathlib.Omega.{arith}
use lib.Pow.{pow_pos, pow_mono, pow-add, pow-lt}
use lib.Ieee.{size}
use lib.Ieee.Digits.{size_reaches}
use lib.Ieee.Fits.{kept-lt}
use Rattle.rounding.specs.Mode.{Way, near, under, over}
use Rattle.rounding.specs.Select.{unit, chosen}
pub use Rattle.rounding.specs.Paper.{Rep}
use Rattle.rounding.proofs.Order.{le_or_lt, dist}
use Rattle.rounding.proofs.Grid.{Grid, grid_in, grid_under_le, grid_under_largest, grid_over_ge, grid_over_smallest, grid_near_closest, grid_mono}

pub unit_pos : (p m : ℕ) → 0 < unit p m
unfolding unit
unit_pos p m = pow_pos (size m - p)

-- ---- no p-digit number lies strictly between two multiples of the unit that stand next to each other at m

back : (a l : ℕ) → l ≤ a → a - l + l ≡ a
back a l h = omega arith

-- one whose weight is the unit's or more is a multiple of the unit
pub multiple : (d i k : ℕ) → k ≤ i → d * 2 ^ i ≡ d * 2 ^ (i - k) * 2 ^ k
multiple d i k h = ap (λ (x : ℕ). d * 2 ^ x) (sym (back i k h)) ∙ ap (λ (x : ℕ). d * x) (pow-add 2 (i - k) k) ∙ sym (mul_assoc d (2 ^ (i - k)) (2 ^ k))

room : (p i k : ℕ) → 0 < p → i < k → p + i ≤ p - 1 + k
room p i k P h = omega arith

-- one of a lower weight is below 2 ^ (p - 1) units
lower : (p d i k : ℕ) → 0 < p → d < 2 ^ p → i < k → d * 2 ^ i < 2 ^ (p - 1) * 2 ^ k
lower p d i k P h l =
    lt_of_lt_of_le (mul-lt-mul_of_pos_right h (pow_pos i))
    (le_trans (le_of_eq (sym (pow-add 2 p i))) (le_trans (pow_mono (room p i k P l)) (le_of_eq (pow-add 2 (p - 1) k))))

inside : (p z i : ℕ) → 0 < p → i < z - p → p - 1 + (z - p) < z
inside p z i P h = omega arith

-- and m is not below that
pub reaches : (p m i : ℕ) → 0 < p → i < size m - p → 2 ^ (p - 1) * 2 ^ (size m - p) ≤ m
reaches p m i P h = le_trans (le_of_eq (sym (pow-add 2 (p - 1) (size m - p)))) (size_reaches m (p - 1 + (size m - p)) (inside p (size m) i P h))

next : (a q u : ℕ) → q < a → q * u + u ≤ a * u
next a q u h = le_trans (le_of_eq (sym (suc-mul q u))) (mul-le-mul_right u h)

pub gap : (p m n : ℕ) → 0 < p → Rep p n → (n ≤ m / unit p m * unit p m) ⊎ (m / unit p m * unit p m + unit p m ≤ n)
unfolding unit
gap p m n P r = elim (le_or_lt (size m - p) r.shift) [ inl h ↦ on h | inr h ↦ inl (off h) ]
  where
    on : size m - p ≤ r.shift → (n ≤ m / unit p m * unit p m) ⊎ (m / unit p m * unit p m + unit p m ≤ n)
    on h =
        let u = unit p m in
        let a = r.digits * 2 ^ (r.shift - (size m - p)) in
        let e : n ≡ a * u = r.is ∙ multiple r.digits r.shift (size m - p) h in
        elim (le_or_lt a (m / u)) [ inl l ↦ inl (rw e (mul-le-mul_right u l)) | inr l ↦ inr (rw e (next a (m / u) u l)) ]

    off : r.shift < size m - p → n ≤ m / unit p m * unit p m
    off h =
        let u = unit p m in
        le_of_lt (lt_of_lt_of_le (rw r.is (lower p r.digits r.shift (size m - p) P r.few h))
        (mul-le-mul_right u ((le-div_iff_mul-le (pow_pos (size m - p))).1 (reaches p m r.shift P h))))

-- ---- m = q units and a rest below the unit

pub parts : (p m : ℕ) → m / unit p m * unit p m + m % unit p m ≡ m
parts p m = div-add-mod' m (unit p m)

pub rest_lt : (p m : ℕ) → m % unit p m < unit p m
rest_lt p m = mod-lt m (unit_pos p m)

pub digits_lt : (p m : ℕ) → m / unit p m < 2 ^ p
unfolding unit
digits_lt p m = kept-lt p m

-- ---- both multiples around m have p digits

-- 2 ^ p is one digit, a place further up
pub full : (p k q : ℕ) → 0 < p → q ≤ 2 ^ p → Rep p (q * 2 ^ k)
full p k q P h = elim (le_or_lt (2 ^ p) q) [
  | inr l ↦ record { digits = q; shift = k; few = l; is = refl }
  | inl l ↦ record { digits = 2 ^ (p - 1); shift = suc k; few = pow-lt (less p P); is = ap (λ (x : ℕ). x * 2 ^ k) (le_antisymm h l) ∙ carry p P }
]
  where
    less : (p : ℕ) → 0 < p → p - 1 < p
    less p P = omega arith

    one_more : (p k : ℕ) → 0 < p → p + k ≡ p - 1 + suc k
    one_more p k P = omega arith

    carry : (p : ℕ) → 0 < p → 2 ^ p * 2 ^ k ≡ 2 ^ (p - 1) * 2 ^ suc k
    carry p P = sym (pow-add 2 p k) ∙ ap (λ (x : ℕ). 2 ^ x) (one_more p k P) ∙ pow-add 2 (p - 1) (suc k)

pub digits_grid : (p m : ℕ) → 0 < p → Grid (Rep p) m (unit p m)
unfolding unit
digits_grid p m P =
    record {
      positive = pow_pos (size m - p);
      gap = λ n r. gap p m n P r;
      lower = full p (size m - p) (m / unit p m) P (le_of_lt (digits_lt p m));
      upper = subst (Rep p) (suc-mul (m / unit p m) (unit p m)) (full p (size m - p) (suc (m / unit p m)) P (digits_lt p m));
    }

-- ---- the laws of p digits

pub chosen_rep : (w : Way) (p m : ℕ) → 0 < p → Rep p (chosen w p m)
unfolding chosen
chosen_rep w p m P = grid_in (Rep p) m (unit p m) (digits_grid p m P) w

pub under_le : (p m : ℕ) → chosen under p m ≤ m
unfolding chosen
under_le p m = grid_under_le m (unit p m)

pub under_largest : (p m n : ℕ) → 0 < p → Rep p n → n ≤ m → n ≤ chosen under p m
unfolding chosen
under_largest p m n P r h = grid_under_largest (Rep p) m (unit p m) (digits_grid p m P) n r h

pub over_ge : (p m : ℕ) → m ≤ chosen over p m
unfolding chosen
over_ge p m = grid_over_ge m (unit p m) (unit_pos p m)

pub over_smallest : (p m n : ℕ) → 0 < p → Rep p n → m ≤ n → chosen over p m ≤ n
unfolding chosen
over_smallest p m n P r h = grid_over_smallest (Rep p) m (unit p m) (digits_grid p m P) n r h

pub near_closest : (p m n : ℕ) → 0 < p → Rep p n → dist (chosen near p m) m ≤ dist n m
unfolding chosen
near_closest p m n P r = grid_near_closest (Rep p) m (unit p m) (digits_grid p m P) n r

pub chosen_mono : (w : Way) (p m n : ℕ) → 0 < p → m ≤ n → chosen w p m ≤ chosen w p n
unfolding chosen
chosen_mono w p m n P h = grid_mono (Rep p) (unit p) (λ k. digits_grid p k P) w m n h
