-- The difference of two operands that have no more digits than the target keeps is exact: nothing of it lies below them. Assumes nothing.
use mathlib.Core.Path.{◌≡◌, sym, ap, ◌∙◌, subst}
use mathlib.Core.Bool.{false, beq}
use mathlib.Core.List.{List}
use Prim.Native.Nat.{ℕ, ◌+◌, ◌-◌, ◌*◌, ◌%◌, ◌^◌, ◌≤◌, ◌∣◌}
use native.Mathlib.Nat.{dvd_trans, dvd-mul_right, dvd-mul_right_of_dvd, dvd-sub, dvd_of_mod-eq-zero, mod-eq-zero_of_dvd}
use native.Mathlib.Omega.{arith}
use lib.ListN.{length}
use lib.Pow.{pow-add}
use Rattle.limb.specs.Carry.{bit}
use Rattle.limb.specs.Value.{value_of}
use Rattle.numbers.specs.Limits.{limbs_for}
use Rattle.numbers.specs.Operand.{Operand, WellFormed, spare_bits}
use Rattle.aligned.specs.Aligned.{Aligned, Standing}
use Rattle.aligned.proofs.Parting.{unlike_told, difference_all}

-- an operand of n limbs that has no more digits than p is 0 below its first p digits
operand_clean : (p n : ℕ) (w : Operand) → WellFormed w → w.is_zero ≡ false → length w.limbs ≡ n → w.precision ≤ p → 2 ^ (64 * n - p) ∣ value_of w.limbs
unfolding spare_bits
operand_clean p n w g r e h =
    let spare = 64 * limbs_for w.precision - w.precision in
    let places : 2 ^ spare ≡ 2 ^ (64 * n - p) * 2 ^ (spare - (64 * n - p)) = ap (λ (m : ℕ). 2 ^ m) (apart (limbs_for w.precision) w.precision (sym g.count ∙ e) h) ∙ pow-add 2 (64 * n - p) (spare - (64 * n - p)) in
    dvd_trans (2 ^ (64 * n - p)) (subst (λ (m : ℕ). 2 ^ (64 * n - p) ∣ m) (sym places) (dvd-mul_right (2 ^ (64 * n - p)) (2 ^ (spare - (64 * n - p))))) (dvd_of_mod-eq-zero (2 ^ spare) (g.regular r).spare)
  where
    apart : (l q : ℕ) → l ≡ n → q ≤ p → 64 * l - q ≡ 64 * n - p + (64 * l - q - (64 * n - p))
    apart l q e h = omega arith

-- and so is their difference
pub both_clean : (p n : ℕ) (x y : Operand) → Aligned x y n → x.precision ≤ p → y.precision ≤ p → 2 ^ (64 * n - p) ∣ value_of x.limbs - value_of y.limbs
both_clean p n x y a h k = dvd-sub (2 ^ (64 * n - p)) (operand_clean p n x a.first a.first_regular a.first_limbs h) (operand_clean p n y a.second a.second_regular a.second_limbs k)

pub none_below : (p : ℕ) (x y : Operand) (t : List ℕ) (z top : ℕ) → Standing p x y t false z top → beq x.negative y.negative ≡ false → x.precision ≤ p → y.precision ≤ p → value_of t % 2 ^ (64 * length t - p) ≡ 0
unfolding bit
none_below p x y t z top s unlike h k =
    let a = s.covered.aligned in
    let n = length t in
    let S = 2 ^ (64 * n - p) in
    let X = value_of x.limbs in
    let Y = value_of y.limbs in
    let value : value_of t ≡ (X - Y) * 2 ^ (64 * z) = flat (2 ^ (64 * n)) (value_of t) ∙ s.value ∙ ap (λ (m : ℕ). m * 2 ^ (64 * z)) (difference_all x y n a (unlike_told x y n a unlike)) in
    mod-eq-zero_of_dvd S (subst (λ (m : ℕ). S ∣ m) (sym value) (dvd-mul_right_of_dvd S (both_clean p n x y a h k) (2 ^ (64 * z))))
  where
    flat : (P v : ℕ) → v ≡ 0 * P + v
    flat P v = omega arith
