-- A number whose digits stand in two limbs, or in fewer than are kept, is selected as it is. Assumes nothing.
use mathlib.Core.Path.{◌≡◌, refl, sym, ap, ◌∙◌, subst}
use mathlib.Core.Bool.{Bool, true, false}
use Prim.Native.Nat.{Ordering}
use Prim.Native.Nat.{ℕ, zero, suc, ◌+◌, ◌-◌, ◌*◌, ◌^◌, ◌≤◌, ◌<◌}
use native.Mathlib.Nat.{le_trans, le_of_eq, lt_of_lt_of_le, mul_assoc, mul_right_comm, mul-le-mul_right}
use native.Mathlib.Omega.{arith}
use lib.Ieee.{size}
use lib.Ieee.Digits.{size-lt}
use lib.Pow.{pow-add, shl_lt}
use Rattle.limb.specs.Carry.{bit}
use Rattle.numbers.specs.Limits.{least_exponent, most_exponent}
use Rattle.rounding.specs.Mode.{Way}
use Rattle.rounding.specs.Select.{chosen}
use Rattle.rounding.specs.Answer.{number, digits, signed, rounded}
use Rattle.rounding.specs.Paper.{Rep, Written, kept}
use Rattle.rounding.proofs.Order.{compare_at}
use Rattle.rounding.proofs.Scale.{exact}
use Rattle.rounding.proofs.Range.{accepted}
use Rattle.twolimbs.specs.Two.{head_in, Brought}
use Rattle.twolimbs.specs.declared.Normal.{Normal}

-- ---- an exact number

-- what is not 0 has a digit
pub size_some : (m : ℕ) → 0 < m → 1 ≤ size m
size_some m h = go (size m) (size-lt m)
  where
    go : (z : ℕ) → m < 2 ^ z → 1 ≤ z
    go zero l = absurd (omega arith)
    go (suc z) l = omega arith

signed_level : (n : Bool) → signed n Ordering.eq ≡ Ordering.eq
unfolding signed
signed_level true = refl
signed_level false = refl

-- a number of no more than p digits, in range, is the answer
pub exact_rounded : (w : Way) (p s : ℕ) (n : Bool) (m : ℕ) → 0 < p → Rep p m → least_exponent ≤ size m + s → size m + s ≤ most_exponent → rounded w p s n m ≡ number n (size m + s) (digits p m) Ordering.eq
exact_rounded w p s n m P rep least most =
    let same : chosen w p m ≡ m = exact w p m P rep in
    accepted w p s n m (rw same least) (rw same most) ∙ ap (kept p s n m) same ∙ rw (compare_at Ordering.eq m m refl, signed_level n) refl

-- ---- digits, and zeros below them

-- the same number with more digits
pub written_longer : (p q s c d e : ℕ) → 0 < p → p ≤ q → Written p s c d e → Written q s c (d * 2 ^ (q - p)) e
written_longer p q s c d e P h w =
    record {
      first = le_trans (le_of_eq (ap (λ (m : ℕ). 2 ^ m) (let z : q - 1 ≡ p - 1 + (q - p) = omega arith in z) ∙ pow-add 2 (p - 1) (q - p))) (mul-le-mul_right (2 ^ (q - p)) w.first);
      few = subst (λ (m : ℕ). d * 2 ^ (q - p) < 2 ^ m) (let z : p + (q - p) ≡ q = omega arith in z) (shl_lt p (q - p) w.few);
      worth =
          mul_right_comm d (2 ^ (q - p)) (2 ^ e) ∙ ap (λ (m : ℕ). m * 2 ^ (q - p)) w.worth ∙ mul_assoc c (2 ^ (p + s)) (2 ^ (q - p))
          ∙ ap (λ (m : ℕ). c * m) (sym (pow-add 2 (p + s) (q - p)) ∙ ap (λ (m : ℕ). 2 ^ m) (let z : p + s + (q - p) ≡ q + s = omega arith in z));
    }

-- two limbs, the first digit of which is 1
module _ (high low : ℕ) where
  head_lt : high < 2 ^ 64 → low < 2 ^ 64 → head_in (2 ^ 64) false high low < 2 ^ 128
  unfolding head_in bit
  head_lt h l = lt_of_lt_of_le (go (2 ^ 64) h l) (le_of_eq (sym (pow-add 2 64 64)))
    where
      go : (B : ℕ) → high < B → low < B → (0 * B + high) * B + low < B * B
      go B h l = omega (arith, mul-le-mul_right B h)

  head_ge : 2 ^ 63 ≤ high → 2 ^ 127 ≤ head_in (2 ^ 64) false high low
  unfolding head_in bit
  head_ge h = le_trans (le_of_eq (pow-add 2 63 64)) (go (2 ^ 63) (2 ^ 64) h)
    where
      go : (H B : ℕ) → H ≤ high → H * B ≤ (0 * B + high) * B + low
      go H B h = omega (arith, mul-le-mul_right B h)

-- brought to the top of two limbs, a number is written with 128 digits
pub brought_written : (D c k s top : ℕ) (r : Normal) → Brought D top r → r.high < 2 ^ 64 → r.low < 2 ^ 64 → D ≡ c * 2 ^ k → k + top ≡ 128 + s → Written 128 s c (head_in (2 ^ 64) false r.high r.low) r.exponent
brought_written D c k s top r b upper lower e f =
    record {
      first = head_ge r.high r.low b.first;
      few = head_lt r.high r.low upper lower;
      worth = b.worth ∙ ap (λ (m : ℕ). m * 2 ^ top) e ∙ mul_assoc c (2 ^ k) (2 ^ top) ∙ ap (λ (m : ℕ). c * m) (sym (pow-add 2 k top) ∙ ap (λ (m : ℕ). 2 ^ m) f);
    }
