-- The double of an answer is worth what is selected, and that is what the mode asks for in words. Assumes nothing.
use mathlib.Core.Path.{◌≡◌, sym, ap, ◌∙◌}
use mathlib.Core.Bool.{Bool, true, false, cond, true≢false}
use Prim.Native.Nat.{ℕ, ◌+◌, ◌-◌, ◌*◌, ◌^◌, ◌≤◌, ◌<◌, compare}
use native.Mathlib.Nat.{mul_assoc, lt_of_lt_of_le}
use native.Mathlib.Omega.{arith}
use lib.Pow.{pow_pos, pow-add}
use lib.Ieee.{size}
use Rattle.numbers.specs.Operand.{Operand, mantissa, last_weight, WellFormed}
use Rattle.numbers.proofs.Digits.{mantissa_ge}
use Rattle.rounding.specs.Mode.{way}
use Rattle.rounding.specs.declared.Mode.{Mode}
use Rattle.rounding.specs.Select.{chosen}
use Rattle.rounding.specs.Answer.{number, digits, signed}
use Rattle.rounding.specs.Sum.{amount}
use Rattle.rounding.specs.Paper.{Asks, Sign, Written}
use Rattle.rounding.proofs.Order.{mul_one_one}
use Rattle.rounding.proofs.Selection.{chosen_rep}
use Rattle.rounding.proofs.Scale.{chosen_pos}
use Rattle.rounding.proofs.Range.{written}
use Rattle.rounding.proofs.Paper.{selected, selected_is_asked, ternary_is_sign}
use Rattle.unpack.specs.Double.{double_least, double_most, double_sign, double_worth, double_unit, packed}
use Rattle.doubles.specs.Convert.{in_doubles}
use Rattle.unpack.proofs.Bits.{packed_worth, packed_sign}
use Rattle.doubles.proofs.Cases.{in_doubles_lem, is_inside, few_digits, first_digit, least_literal}

-- what a regular number is worth
pub regular_amount : (x : Operand) → x.is_zero ≡ false → amount 0 x ≡ mantissa x * 2 ^ last_weight x
unfolding amount
regular_amount x z = go x.is_zero z
  where
    less : (k : ℕ) → k - 0 ≡ k
    less k = omega arith

    go : (b : Bool) → b ≡ false → cond b 0 (mantissa x * 2 ^ (last_weight x - 0)) ≡ mantissa x * 2 ^ last_weight x
    go true e = absurd (true≢false e)
    go false e = ap (λ (k : ℕ). mantissa x * 2 ^ k) (less (last_weight x))

module _ (mode : Mode) (x : Operand) (g : WellFormed x) (z : x.is_zero ≡ false) where
  abbrev n : Bool
  n = x.negative

  abbrev m : ℕ
  m = mantissa x

  abbrev s : ℕ
  s = last_weight x

  abbrev pub c : ℕ
  c = chosen (way mode n) 53 m

  abbrev pub E : ℕ
  E = size c + s

  abbrev pub d : ℕ
  d = digits 53 c

  pub some : 0 < m
  some = lt_of_lt_of_le (pow_pos (x.precision - 1)) (mantissa_ge x g z)

  as_written : Written 53 s c d E
  as_written = written 53 s c (omega arith) (chosen_pos (way mode n) 53 m (omega arith) some) (chosen_rep (way mode n) 53 m (omega arith))

  pub inside_worth : double_least ≤ E → E ≤ double_most → double_worth (packed n E d) * 2 ^ double_unit ≡ c * 2 ^ s
  inside_worth lo hi =
      packed_worth n E d lo hi (first_digit mode x g z) (few_digits mode x g z)
      ∙ mul_one_one (d * 2 ^ (E - 53)) (c * 2 ^ s) (2 ^ 53) (pow_pos 53)
      (mul_assoc d (2 ^ (E - 53)) (2 ^ 53) ∙ ap (λ (k : ℕ). d * k) (sym (pow-add 2 (E - 53) 53)) ∙ ap (λ (k : ℕ). d * 2 ^ k) back
      ∙ as_written.worth ∙ ap (λ (k : ℕ). c * 2 ^ k) (turn s) ∙ ap (λ (k : ℕ). c * k) (pow-add 2 s 53) ∙ sym (mul_assoc c (2 ^ s) (2 ^ 53)))
    where
      back : E - 53 + 53 ≡ E
      back = omega (arith, least_literal)

      turn : (k : ℕ) → 53 + k ≡ k + 53
      turn k = omega arith

  -- "selected with 53 bits and unbounded exponent": the double is what the mode asks for among all numbers of 53 digits, and its case is
  -- the sign of double minus number
  pub answered_as_asked : double_least ≤ E → E ≤ double_most
      → (in_doubles mode x ≡ number n E d (signed n (compare c m)))
      × Asks mode 53 n (amount 0 x) (double_sign (packed n E d)) (double_worth (packed n E d) * 2 ^ double_unit)
      × Sign (signed n (compare c m)) n c n m
  unfolding selected
  answered_as_asked lo hi = (
    in_doubles_lem mode x g z ∙ is_inside _ E lo hi,
    rw (regular_amount x z, inside_worth lo hi, packed_sign n E d lo hi (first_digit mode x g z) (few_digits mode x g z)) (selected_is_asked 53 n m s (omega arith) some mode),
    ternary_is_sign n c m,
  )
