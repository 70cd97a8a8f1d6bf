-- The limbs used of an operand: as the code finds them, and as they are defined. Assumes nothing.
use mathlib.Core.Path.{◌≡◌, refl}
use mathlib.Core.Bool.{false}
use Prim.Native.Nat.{ℕ, ◌+◌, ◌-◌, ◌*◌, ◌/◌, ◌≤◌, ◌<◌, min}
use native.Mathlib.Omega.{arith}
use borrow.Author.Tests.{le-leb, lt-leb}
use lib.ListN.{length}
use Rattle.numbers.specs.Operand.{Operand, WellFormed}
use Rattle.depth.specs.Columns.{limbs_used}
use Rattle.reports.specs.Counts.{used_of}

module _ (k gap n : ℕ) where
  pub used_none : 64 * k ≤ gap → 0 ≡ used_of k gap n
  unfolding used_of
  used_none h = rw (le-leb (64 * k) gap h) refl

  pub used_some : gap < 64 * k → (64 * k - gap + 63) / 64 < n → (64 * k - gap + 63) / 64 ≡ used_of k gap n
  unfolding used_of
  used_some h l = rw (lt-leb (64 * k) gap h) (less ((64 * k - gap + 63) / 64) l)
    where
      less : (m : ℕ) → m < n → m ≡ min n m
      less m l = omega arith

  pub used_all : gap < 64 * k → n ≤ (64 * k - gap + 63) / 64 → n ≡ used_of k gap n
  unfolding used_of
  used_all h l = rw (lt-leb (64 * k) gap h) (most ((64 * k - gap + 63) / 64) l)
    where
      most : (m : ℕ) → n ≤ m → n ≡ min n m
      most m l = omega arith

-- an operand below the top uses what the code counts
pub used_is : (x : Operand) (t k gap : ℕ) → WellFormed x → x.is_zero ≡ false → gap ≡ t - x.exponent → used_of k gap (length x.limbs) ≡ limbs_used t k x
unfolding used_of limbs_used
used_is x t k gap g r e = rw (r, e, g.count) refl
