-- The limbs used of an operand: as many as the digits read take, no more than it has, and no fewer for more columns.
use mathlib.Core.Path.{◌≡◌, refl}
use mathlib.Core.Bool.{Bool, true, false, cond}
use Prim.Native.Nat.{ℕ, ◌+◌, ◌-◌, ◌*◌, ◌/◌, ◌≤◌, ◌<◌, min, zero-le}
use native.Mathlib.Decide.{dec_le}
use native.Mathlib.Omega.{arith}
use borrow.Author.Tests.{leb-true, leb-false, le-leb, lt-leb}
use lib.Dec.{leb}
use Rattle.numbers.specs.Limits.{limbs_for}
use Rattle.numbers.specs.Operand.{Operand}
use Rattle.numbers.proofs.Limits.{limbs_hold, limbs_fewest}
use Rattle.depth.specs.Columns.{limbs_used}
use Rattle.depth.specs.Read.{unread}

-- the limbs used of a regular operand hold every digit that is read
pub used_hold : (t k : ℕ) (x : Operand) → x.is_zero ≡ false → x.precision - unread t k x ≤ 64 * limbs_used t k x
unfolding limbs_used unread
used_hold t k x r =
    elim (dec_le (64 * k) (t - x.exponent)) [
      | yes h ↦ rw (r, le-leb (64 * k) (t - x.exponent) h) (omega arith)
      | no h ↦ rw (r, lt-leb (64 * k) (t - x.exponent) (omega arith)) (omega (arith, limbs_hold x.precision))
    ]

-- and no fewer would
pub used_fewest : (t k : ℕ) (x : Operand) → x.is_zero ≡ false → 64 * limbs_used t k x < x.precision - unread t k x + 64
unfolding limbs_used unread
used_fewest t k x r =
    elim (dec_le (64 * k) (t - x.exponent)) [
      | yes h ↦ rw (r, le-leb (64 * k) (t - x.exponent) h) (omega arith)
      | no h ↦ rw (r, lt-leb (64 * k) (t - x.exponent) (omega arith)) (omega (arith, limbs_fewest x.precision))
    ]

least_of : (a b : ℕ) → min a b ≤ a
least_of a b = omega arith

pub used_most : (t k : ℕ) (x : Operand) → limbs_used t k x ≤ limbs_for x.precision
unfolding limbs_used
used_most t k x = go x.is_zero (leb (64 * k) (t - x.exponent))
  where
    go : (a b : Bool) → cond a 0 (cond b 0 (min (limbs_for x.precision) ((64 * k - (t - x.exponent) + 63) / 64))) ≤ limbs_for x.precision
    go true b = zero-le
    go false true = zero-le
    go false false = least_of (limbs_for x.precision) ((64 * k - (t - x.exponent) + 63) / 64)

pub used_mono : (t j k : ℕ) (x : Operand) → j ≤ k → limbs_used t j x ≤ limbs_used t k x
unfolding limbs_used
used_mono t j k x h = go x.is_zero (leb (64 * j) (t - x.exponent)) (leb (64 * k) (t - x.exponent)) refl refl
  where
    of : ℕ → ℕ
    of n = min (limbs_for x.precision) ((64 * n - (t - x.exponent) + 63) / 64)

    more : (L d : ℕ) → min L ((64 * j - d + 63) / 64) ≤ min L ((64 * k - d + 63) / 64)
    more L d = min_mono L ((64 * j - d + 63) / 64) ((64 * k - d + 63) / 64) (columns d)
      where
        columns : (d : ℕ) → (64 * j - d + 63) / 64 ≤ (64 * k - d + 63) / 64
        columns d = omega arith

        min_mono : (a b c : ℕ) → b ≤ c → min a b ≤ min a c
        min_mono a b c h = omega arith

    clash : (d : ℕ) → d < 64 * j → 64 * k ≤ d → ⊥
    clash d a b = omega arith

    go : (a b c : Bool) → leb (64 * j) (t - x.exponent) ≡ b → leb (64 * k) (t - x.exponent) ≡ c → cond a 0 (cond b 0 (of j)) ≤ cond a 0 (cond c 0 (of k))
    go true b c e f = zero-le
    go false true c e f = zero-le
    go false false true e f = absurd (clash (t - x.exponent) (leb-false _ _ e) (leb-true _ _ f))
    go false false false e f = more (limbs_for x.precision) (t - x.exponent)
