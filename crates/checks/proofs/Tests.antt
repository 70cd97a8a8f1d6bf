-- What each test of the code says of the definitions: by kind, and of the lowest and the top limb. Assumes nothing.
use mathlib.Core.Path.{◌≡◌, refl, sym}
use mathlib.Core.Bool.{Bool, true, false, ◌&&◌}
use mathlib.Core.List.{List, [], ◌∷◌}
use Prim.Native.Nat.{ℕ, ◌-◌, ◌%◌, ◌^◌, ◌<◌}
use native.Mathlib.Nat.{mod-eq_of_lt, le_of_lt}
use native.Mathlib.Omega.{arith}
use lib.Count.{count_trailing_zeros}
use lib.Dec.{leb, eqb}
use lib.ListN.{length}
use lib.Pow.{pow_pos}
use borrow.Author.Tests.{eq-eqb}
use Rattle.numbers.specs.Limits.{counted, bias, least_exponent, most_exponent, limbs_for}
use Rattle.numbers.specs.Operand.{spare_bits}
use Rattle.checks.specs.declared.Number.{Number}
use Rattle.checks.specs.Number.{operand_of, is_zero_kind}
use Rattle.checks.specs.Check.{exponent_holds, form_holds, top_bit_holds, spare_bits_hold}
use Rattle.checks.proofs.Zeros.{zeros_divide}

module _ (x : Number) where
  pub zero_exponent : (e : ℕ) → is_zero_kind x.kind ≡ true → e ≡ counted x.exponent → eqb e 1099511627776 ≡ exponent_holds (operand_of x [])
  unfolding exponent_holds operand_of bias
  zero_exponent e k h = rw (k, h)

  pub regular_exponent : (e : ℕ) → is_zero_kind x.kind ≡ false → e ≡ counted x.exponent → leb 1098437885953 e && leb e 1100585369599 ≡ exponent_holds (operand_of x [])
  unfolding exponent_holds operand_of bias least_exponent most_exponent
  regular_exponent e k h = rw (k, h)

  pub zero_form : (l : List ℕ) → is_zero_kind x.kind ≡ true → true ≡ form_holds (operand_of x l)
  unfolding form_holds operand_of
  zero_form l k = rw k

  pub regular_form : (l : List ℕ) (a b : Bool) → is_zero_kind x.kind ≡ false → a ≡ top_bit_holds l → b ≡ spare_bits_hold x.precision l → a && b ≡ form_holds (operand_of x l)
  unfolding form_holds operand_of
  regular_form l a b k h g = rw (k, h, g)

-- with no limb there is no top bit, and no spare bit
pub empty_top : (l : List ℕ) → length l ≡ 0 → false ≡ top_bit_holds l
unfolding top_bit_holds
empty_top [] e = refl
empty_top (v ∷ l) e = absurd (omega arith)

pub empty_spare : (p : ℕ) (l : List ℕ) → length l ≡ 0 → true ≡ spare_bits_hold p l
unfolding spare_bits_hold
empty_spare p [] e = sym (eq-eqb _ _ (none (spare_bits p)))
  where
    none : (s : ℕ) → 0 % 2 ^ s ≡ 0
    none s = mod-eq_of_lt (pow_pos s)
empty_spare p (v ∷ l) e = absurd (omega arith)

-- the number of spare bits, as the code has it
pub spare_is : (p : ℕ) → (64 - p % 64) % 64 ≡ spare_bits p
unfolding spare_bits limbs_for
spare_is p = omega arith

pub spare_lt : (p : ℕ) → spare_bits p < 64
spare_lt p = omega (arith, spare_is p)

-- no spare bit is set exactly where at least as many zeros stand below the lowest set digit
pub spare_zeros : (p low : ℕ) → leb ((64 - p % 64) % 64) (count_trailing_zeros 64 low) ≡ spare_bits_hold p (low ∷ [])
unfolding spare_bits_hold
spare_zeros p low = rw (spare_is p) (zeros_divide 64 low (spare_bits p) (le_of_lt (spare_lt p)))
