-- The unit in which the exact value is counted does not matter.
use mathlib.Core.Path.{◌≡◌, refl, sym, ap, ◌∙◌}
use mathlib.Core.Logic.{inl, inr}
use mathlib.Core.Bool.{Bool}
use Prim.Native.Nat.{ℕ, zero, suc, ◌+◌, ◌-◌, ◌*◌, ◌/◌, ◌^◌, ◌≤◌, ◌<◌, compare, Ordering}
use native.Mathlib.Nat.{le_refl, le_trans, le_of_eq, lt_of_lt_of_le, le_antisymm, mul_assoc, mul_right_comm, mul-le-mul_right, mul-lt-mul_of_pos_right, mul-pos, mul-div-mul_right, div-eq_of_lt-le, div-mul-le_self, lt-div-mul-add}
use native.Mathlib.Omega.{arith}
use lib.Pow.{pow-lt, pow_pos, pow_mono, pow-add}
use lib.Ieee.{size}
use lib.Ieee.Digits.{size-lt, size_reaches}
use lib.Ieee.Nearest.{closest_same}
use Rattle.rounding.specs.Mode.{Way, near, under, over}
use Rattle.rounding.specs.Select.{quotient, unit, chosen, on_grid}
use Rattle.rounding.specs.Answer.{digits, rounded}
use Rattle.rounding.proofs.Selection.{Rep, unit_pos, under_le, under_largest, over_ge, over_smallest, near_closest, chosen_mono}
use Rattle.rounding.proofs.Order.{le_or_lt, dist, Cmp, cmp, compare_at}
use Rattle.limb.proofs.Sizes.{size_is}

-- ---- a p-digit number selects itself

pub exact : (w : Way) (p m : ℕ) → 0 < p → Rep p m → chosen w p m ≡ m
exact under p m P r = le_antisymm (under_le p m) (under_largest p m m P r (le_refl m))
exact over p m P r = le_antisymm (over_smallest p m m P r (le_refl m)) (over_ge p m)
exact near p m P r = none (chosen near p m) (near_closest p m m P r)
  where
    none : (s : ℕ) → dist s m ≤ dist m m → s ≡ m
    none s h = omega arith

-- ---- m counted in units that are 2 ^ j times smaller

pub size_shift : (m j : ℕ) → 0 < m → size (m * 2 ^ j) ≡ size m + j
size_shift m j M = go (size m) (size-lt m) (size_reaches m)
  where
    go : (z : ℕ) → m < 2 ^ z → ((i : ℕ) → i < z → 2 ^ i ≤ m) → size (m * 2 ^ j) ≡ z + j
    go zero h k = absurd (omega arith)
    go (suc z) h k =
        size_is (m * 2 ^ j) (z + j) (le_trans (le_of_eq (pow-add 2 z j)) (mul-le-mul_right (2 ^ j) (k z (below z))))
        (lt_of_lt_of_le (mul-lt-mul_of_pos_right h (pow_pos j)) (le_of_eq (sym (pow-add 2 (suc z) j) ∙ ap (λ (x : ℕ). 2 ^ x) (shift z j))))
        ∙ sym (shift z j)
      where
        below : (z : ℕ) → z < suc z
        below z = omega arith

        shift : (z j : ℕ) → suc z + j ≡ suc (z + j)
        shift z j = omega arith

quot_shift : (w : Way) (m u v : ℕ) → 0 < u → 0 < v → quotient w (m * v) (u * v) ≡ quotient w m u
unfolding quotient
quot_shift under m u v U B = mul-div-mul_right m u B
quot_shift near m u v U B = closest_same (m * v) (u * v) m u (mul-pos U B) U (mul_right_comm m v u ∙ mul_assoc m u v)
quot_shift over m u v U B =
    let x = (m + (u - 1)) / u in
    div-eq_of_lt-le (u * v) (lo x (div-mul-le_self (m + (u - 1)) u)) (hi x (lt-div-mul-add U))
  where
    room : (x : ℕ) → x * u ≤ m + (u - 1) → suc (x * u) ≤ m + u
    room x h = omega arith

    lo : (x : ℕ) → x * u ≤ m + (u - 1) → x * (u * v) ≤ m * v + (u * v - 1)
    lo x h = let k = mul-le-mul_right v (room x h) in omega arith

    flat : (x : ℕ) → m + (u - 1) < x * u + u → m ≤ x * u
    flat x h = omega arith

    hi : (x : ℕ) → m + (u - 1) < x * u + u → m * v + (u * v - 1) < (x + 1) * (u * v)
    hi x h = let k = mul-le-mul_right v (flat x h) in let l = mul-pos U B in omega arith

pub chosen_shift : (w : Way) (p m j : ℕ) → 0 < p → chosen w p (m * 2 ^ j) ≡ chosen w p m * 2 ^ j
unfolding chosen on_grid unit
chosen_shift w p m j P = elim (le_or_lt (size m) p) [ inl h ↦ small h | inr h ↦ large h ]
  where
    small : size m ≤ p → chosen w p (m * 2 ^ j) ≡ chosen w p m * 2 ^ j
    small h =
        let f = lt_of_lt_of_le (size-lt m) (pow_mono h) in
        exact w p (m * 2 ^ j) P (record { digits = m; shift = j; few = f; is = refl })
        ∙ ap (λ (x : ℕ). x * 2 ^ j) (sym (exact w p m P (record { digits = m; shift = 0; few = f; is = omega arith })))

    more : (z p j : ℕ) → p < z → z + j - p ≡ z - p + j
    more z p j h = omega arith

    large : p < size m → chosen w p (m * 2 ^ j) ≡ chosen w p m * 2 ^ j
    large h =
        let u = unit p m in
        let M : 0 < m = lt_of_lt_of_le (pow_pos p) (size_reaches m p h) in
        let e : unit p (m * 2 ^ j) ≡ u * 2 ^ j = ap (λ (x : ℕ). 2 ^ (x - p)) (size_shift m j M) ∙ ap (λ (x : ℕ). 2 ^ x) (more (size m) p j h) ∙ pow-add 2 (size m - p) j in
        ap (λ (x : ℕ). quotient w (m * 2 ^ j) x * x) e ∙ ap (λ (x : ℕ). x * (u * 2 ^ j)) (quot_shift w m u (2 ^ j) (unit_pos p m) (pow_pos j)) ∙ sym (mul_assoc (quotient w m u) u (2 ^ j))

-- ---- the answer

pub chosen_pos : (w : Way) (p m : ℕ) → 0 < p → 0 < m → 0 < chosen w p m
chosen_pos w p m P M = le_trans (le_of_eq (sym (exact w p 1 P one))) (chosen_mono w p 1 m P M)
  where
    one : Rep p 1
    one = record { digits = 1; shift = 0; few = pow-lt P; is = refl }

pub digits_shift : (p c j : ℕ) → 0 < c → digits p (c * 2 ^ j) ≡ digits p c
unfolding digits
digits_shift p c j C = ap (λ (x : ℕ). c * 2 ^ j * 2 ^ p / 2 ^ x) (size_shift c j C) ∙ ap (λ (x : ℕ). c * 2 ^ j * 2 ^ p / x) (pow-add 2 (size c) j) ∙ ap (λ (x : ℕ). x / (2 ^ size c * 2 ^ j)) (mul_right_comm c (2 ^ j) (2 ^ p)) ∙ mul-div-mul_right (c * 2 ^ p) (2 ^ size c) (pow_pos j)

compare_shift : (a b v : ℕ) → 0 < v → compare (a * v) (b * v) ≡ compare a b
compare_shift a b v B = compare_at (compare a b) (a * v) (b * v) (go (compare a b) (cmp a b))
  where
    go : (o : Ordering) → Cmp o a b → Cmp o (a * v) (b * v)
    go Ordering.lt h = mul-lt-mul_of_pos_right h B
    go Ordering.eq h = ap (λ (x : ℕ). x * v) h
    go Ordering.gt h = mul-lt-mul_of_pos_right h B

pub rounded_shift : (w : Way) (p s : ℕ) (n : Bool) (m j : ℕ) → 0 < p → 0 < m → rounded w p s n (m * 2 ^ j) ≡ rounded w p (j + s) n m
unfolding rounded
rounded_shift w p s n m j P M =
    let c = chosen w p m in
    let e = chosen_shift w p m j P in
    let z : size (chosen w p (m * 2 ^ j)) + s ≡ size c + (j + s) = ap (λ (x : ℕ). size x + s) e ∙ ap (λ (x : ℕ). x + s) (size_shift c j (chosen_pos w p m P M)) ∙ omega arith in
    let d : digits p (chosen w p (m * 2 ^ j)) ≡ digits p c = ap (digits p) e ∙ digits_shift p c j (chosen_pos w p m P M) in
    let t : compare (chosen w p (m * 2 ^ j)) (m * 2 ^ j) ≡ compare c m = ap (λ (x : ℕ). compare x (m * 2 ^ j)) e ∙ compare_shift c m (2 ^ j) (pow_pos j) in
    cc
