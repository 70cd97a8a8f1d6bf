-- Laws of a signed exponent and how it is counted. Assumes nothing.
use mathlib.Core.Path.{◌≡◌, refl, sym, ap, ◌∙◌}
use mathlib.Core.Bool.{true}
use Prim.Native.Nat.{ℕ, suc, ◌+◌, ◌-◌, ◌^◌, ◌≤◌, ◌<◌}
use native.Mathlib.Nat.{add_comm, lt_of_not-le}
use native.Mathlib.Decide.{dec_le}
use native.Mathlib.Omega.{arith}
use lib.Dec.{T, leb}
use lib.IntN.{ℤ, pos, negsuc, ◌+ℤ◌, ◌-ℤ◌, sub_ℕ, nat_abs}
use lib.Signed.{non_neg}
use mir.Syntax.{w32, w64}
use mir.Val.{Fits, SFits, to_z, of_z}
use mir.Facts.{to_z-of_z, to_z_pos, sfits_widen}
use borrow.Author.Tests.{le-ltb, lt-ltb, le-leb, lt-leb, leb-true}
use Rattle.numbers.specs.Limits.{bias, counted, least_exponent, most_exponent}
use Rattle.checks.specs.Number.{exponent_of}

-- a value that is written and read back
read_back : {z : ℤ} → SFits w32 z → to_z w64 (of_z w64 (to_z w32 (of_z w32 z))) ≡ z
read_back {z} h = ap (λ (y : ℤ). to_z w64 (of_z w64 y)) (to_z-of_z h) ∙ to_z-of_z {w = w64} (sfits_widen (tt {0}) h)

-- z, counted from -b
unfoldable pub from : ℕ → ℤ → ℕ
from b (pos n) = b + n
from b (negsuc n) = b - suc n

-- what the machine adds, b being large enough that no exponent of 32 bits falls below 0, and small enough for 64
module _ (b : ℕ) {z : ℤ} (h : SFits w32 z) (low : leb (2 ^ 31) b ≡ true) (high : leb b (2 ^ 62) ≡ true) where
  from_lt : from b z < 2 ^ 63
  unfolding from
  from_lt = go z h (leb-true b (2 ^ 62) high)
    where
      go : (z : ℤ) → SFits w32 z → b ≤ 2 ^ 62 → from b z < 2 ^ 63
      go (pos n) f g = omega arith
      go (negsuc n) f g = omega arith

  from_sum : z +ℤ pos b ≡ pos (from b z)
  unfolding from
  from_sum = go z h (leb-true (2 ^ 31) b low)
    where
      go : (z : ℤ) → SFits w32 z → 2 ^ 31 ≤ b → z +ℤ pos b ≡ pos (from b z)
      go (pos n) f g = ap pos (add_comm n b)
      go (negsuc n) f g = rw (le-ltb b (suc n) (omega arith))

  small_fits : SFits w64 (pos (from b z))
  small_fits = omega (arith, from_lt)

  pub sum_fits : SFits w64 (to_z w64 (of_z w64 (to_z w32 (of_z w32 z))) +ℤ pos b)
  sum_fits = rw (read_back h, from_sum) small_fits

  sum_reads : to_z w64 (of_z w64 (to_z w64 (of_z w64 (to_z w32 (of_z w32 z))) +ℤ pos b)) ≡ pos (from b z)
  sum_reads = rw (read_back h, from_sum) (to_z-of_z small_fits)

  pub sum_casts : T (non_neg (to_z w64 (of_z w64 (to_z w64 (of_z w64 (to_z w32 (of_z w32 z))) +ℤ pos b)))) × Fits w64 (nat_abs (to_z w64 (of_z w64 (to_z w64 (of_z w64 (to_z w32 (of_z w32 z))) +ℤ pos b))))
  sum_casts = rw sum_reads (tt, omega (arith, from_lt))

  pub sum_is : nat_abs (to_z w64 (of_z w64 (to_z w64 (of_z w64 (to_z w32 (of_z w32 z))) +ℤ pos b))) ≡ from b z
  sum_is = ap nat_abs sum_reads

pub from_counted : (z : ℤ) → from 1099511627776 z ≡ counted z
unfolding from counted bias
from_counted (pos n) = refl
from_counted (negsuc n) = refl

-- every counted exponent of a regular number is that of an exponent
pub counted_exponent_of : (c : ℕ) → least_exponent ≤ c → c ≤ most_exponent → counted (exponent_of c) ≡ c
unfolding exponent_of counted least_exponent most_exponent bias
counted_exponent_of c l m =
    elim (dec_le bias c) [
      | yes h ↦ simp (le-leb (bias - 2 ^ 31) c (omega arith), lt-ltb c (bias + 2 ^ 31) (omega arith), le-ltb c bias h) (omega arith)
      | no h ↦ simp (le-leb (bias - 2 ^ 31) c (omega arith), lt-ltb c (bias + 2 ^ 31) (omega arith), lt-ltb c bias (lt_of_not-le h)) (omega arith)
    ]

-- what the machine takes away again
pub counted_less : (c : ℕ) → c < 2 ^ 41 → to_z w64 c -ℤ pos 1099511627776 ≡ sub_ℕ c bias
unfolding bias
counted_less c h = rw (to_z_pos w64 {n = c} (omega arith))

module _ (c : ℕ) (low : 1097364144128 ≤ c) (high : c ≤ 1101659111423) where
  pub exponent_fits : SFits w32 (sub_ℕ c bias)
  unfolding bias
  exponent_fits =
      elim (dec_le 1099511627776 c) [
        | yes h ↦ rw (le-ltb c 1099511627776 h) (omega arith)
        | no h ↦ rw (lt-ltb c 1099511627776 (lt_of_not-le h)) (omega arith)
      ]

  pub exponent_within : exponent_of c ≡ sub_ℕ c bias
  unfolding exponent_of bias
  exponent_within = simp (le-leb 1097364144128 c low, lt-ltb c 1101659111424 (omega arith))

  -- a difference that is written in 64 bits, read, written in 32 and read
  pub exponent_back : to_z w32 (of_z w32 (to_z w64 (of_z w64 (to_z w64 c -ℤ pos 1099511627776)))) ≡ exponent_of c
  exponent_back = ap (λ (z : ℤ). to_z w32 (of_z w32 (to_z w64 (of_z w64 z)))) (counted_less c (omega arith)) ∙ ap (λ (z : ℤ). to_z w32 (of_z w32 z)) (to_z-of_z {w = w64} (sfits_widen (tt {0}) exponent_fits)) ∙ to_z-of_z exponent_fits ∙ sym exponent_within

-- elsewhere it is 0
pub exponent_below : (c : ℕ) → c < 1097364144128 → pos 0 ≡ exponent_of c
unfolding exponent_of bias
exponent_below c h = simp (lt-leb 1097364144128 c h)

pub exponent_above : (c : ℕ) → 1101659111423 < c → pos 0 ≡ exponent_of c
unfolding exponent_of bias
exponent_above c h = simp (le-leb 1097364144128 c (omega arith), le-ltb c 1101659111424 h)

-- every exponent comes back as it was
pub exponent_of_counted : (z : ℤ) → SFits w32 z → exponent_of (counted z) ≡ z
unfolding exponent_of counted bias
exponent_of_counted (pos n) h = simp (le-leb 1097364144128 (1099511627776 + n) (omega arith), lt-ltb (1099511627776 + n) 1101659111424 (omega arith), le-ltb (1099511627776 + n) 1099511627776 (omega arith)) (ap pos (omega arith))
exponent_of_counted (negsuc n) h = simp (le-leb 1097364144128 (1099511627776 - suc n) (omega arith), lt-ltb (1099511627776 - suc n) 1101659111424 (omega arith), lt-ltb (1099511627776 - suc n) 1099511627776 (omega arith)) (ap negsuc (omega arith))
