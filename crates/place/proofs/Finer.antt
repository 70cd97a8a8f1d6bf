-- A run written in a finer unit: j digits more below it count only as something, so the answer is the same. Assumes nothing.
use mathlib.Core.Path.{◌≡◌, refl, sym, ap, ◌∙◌}
use mathlib.Core.Bool.{Bool, not, ◌||◌}
use Prim.Native.Nat.{ℕ, suc, ◌+◌, ◌-◌, ◌*◌, ◌/◌, ◌%◌, ◌^◌, ◌≤◌, ◌<◌}
use native.Mathlib.Nat.{add_comm, le_trans, le_of_eq, lt_of_lt_of_le, mul-le-mul_right}
use native.Mathlib.Omega.{arith}
use lib.Dec.{eqb}
use lib.Pow.{pow-add, shr-shr, high, low, mod-pow-add}
use Rattle.limb.specs.Carry.{bit}
use Rattle.rounding.specs.Mode.{Way}
use Rattle.rounding.specs.Answer.{rounded}
use Rattle.location.specs.declared.Location.{Location}
use Rattle.location.specs.Location.{location_of, goes_up}
use Rattle.kept.specs.Walk.{is_full}
use Rattle.location.proofs.Locating.{finer_rest, four_halves}
use Rattle.place.proofs.Placing.{rounded_at}

-- ---- the answer: N has p digits and `below` more, and F those and j more

module _ (w : Way) (p below N j y : ℕ) (more tail : Bool) (P : 0 < p) (B : 0 < below) (lo : 2 ^ (p + below) ≤ 2 * N) (hi : N < 2 ^ (p + below))
    (few : y < 2 ^ j) (is : more ≡ (not (eqb y 0) || tail)) where
  abbrev F : ℕ
  F = N * 2 ^ j + y

  abbrev at : Location
  at = location_of (2 * (N % 2 ^ below) + bit more) (2 ^ (below + 1))

  kept_same : N / 2 ^ below ≡ F / 2 ^ (j + below)
  kept_same = sym (sym (shr-shr F j below) ∙ ap (λ (n : ℕ). n / 2 ^ below) (high N j few))

  rest_is : F % 2 ^ (j + below) ≡ N % 2 ^ below * 2 ^ j + y
  rest_is =
      ap (λ (n : ℕ). F % 2 ^ n) (add_comm j below) ∙ mod-pow-add F below j ∙ ap (λ (n : ℕ). n % 2 ^ below * 2 ^ j + F % 2 ^ j) (high N j few)
      ∙ ap (λ (n : ℕ). N % 2 ^ below * 2 ^ j + n) (low N j few)

  unit_is : 2 ^ (j + below + 1) ≡ 2 ^ (below - 1) * 2 ^ j * 4
  unit_is =
      let e : j + below + 1 ≡ (below - 1) + j + 2 = omega arith in
      ap (λ (n : ℕ). 2 ^ n) e ∙ pow-add 2 ((below - 1) + j) 2 ∙ ap (λ (n : ℕ). n * 4) (pow-add 2 (below - 1) j)

  at_same : at ≡ location_of (2 * (F % 2 ^ (j + below)) + bit tail) (2 ^ (j + below + 1))
  at_same =
      rw (rest_is, unit_is, four_halves N below B, is) (finer_rest (N % 2 ^ below) (2 ^ (below - 1)) (2 ^ j) y tail few)

  digits_are : 2 ^ (p + (j + below)) ≡ 2 ^ (p + below) * 2 ^ j
  digits_are = let e : p + (j + below) ≡ p + below + j = omega arith in ap (λ (n : ℕ). 2 ^ n) e ∙ pow-add 2 (p + below) j

  finer_lo : 2 ^ (p + (j + below)) ≤ 2 * F
  finer_lo = let k = mul-le-mul_right (2 ^ j) lo in le_trans (le_of_eq digits_are) (le_trans k (more_than N (2 ^ j)))
    where
      more_than : (n k : ℕ) → 2 * n * k ≤ 2 * (n * k + y)
      more_than n k = omega arith

  finer_hi : F < 2 ^ (p + (j + below))
  finer_hi = lt_of_lt_of_le (next N (2 ^ j) few) (le_trans (mul-le-mul_right (2 ^ j) hi) (le_of_eq (sym digits_are)))
    where
      next : (n k : ℕ) → y < k → n * k + y < suc n * k
      next n k h = omega arith

  pub finer : (s : ℕ) (n : Bool) → rounded w p s n (2 * F + bit tail) ≡ rounded w p (j + s) n (2 * N + bit more)
  finer s n =
      let q = N / 2 ^ below in
      let up = goes_up w at (eqb (q % 2) 1) in
      let m = q + bit up in
      let f = bit (is_full p m) in
      let e = p + (below + 1) + f + (j + s) in
      rounded_at w p (j + below) F tail P finer_lo finer_hi at up m s e n at_same (ap (λ (i : ℕ). goes_up w at (eqb (i % 2) 1)) kept_same) (ap (λ (i : ℕ). i + bit up) kept_same) (count f)
      ∙ sym (rounded_at w p below N more P lo hi at up m (j + s) e n refl refl refl refl)
    where
      count : (f : ℕ) → p + (below + 1) + f + (j + s) ≡ p + (j + below + 1) + f + s
      count f = omega arith
