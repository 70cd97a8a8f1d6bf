-- What a number's conversion to a double answers. Definitions only.
-- Document 01, "Doubles": "A number goes to a double under a mode, selected with 53 bits and unbounded exponent."
use Prim.Native.Nat.{ℕ, ◌+◌, zero, suc, compare}
use Rattle.std.specs.Prelude.{Bool, cond, ltb, ℤ, pos, negsuc, Float, Result, Ok, Err}
use Rattle.std.specs.Float.{binary64}
use Rattle.std.specs.Float.Ieee.{to_bits, size}
use Rattle.numbers.specs.Operand.{Operand, mantissa, last_weight}
use Rattle.rounding.specs.Mode.{Way, mode_of, way}
use Rattle.rounding.specs.declared.Mode.{Mode}
use Rattle.rounding.specs.Select.{chosen}
use Rattle.rounding.specs.Answer.{Answer, zero_of, number, too_large, too_small, digits, signed}
use Rattle.location.specs.Ternary.{ternary_of}
use Rattle.checks.specs.declared.Refusal.{Refusal}
use Rattle.checks.specs.declared.Rule.{Rule}
use Rattle.checks.specs.declared.Rule.TheVariants.{DoubleTooLarge, DoubleTooSmall}
use Rattle.checks.specs.declared.Place.TheVariants.{Call}
use Rattle.checks.specs.Refusal.{rule_number, place_number}
use Rattle.checks.specs.Check.{then, converted_refusal}
use Rattle.doubles.specs.declared.Converted.{Converted}
use Rattle.doubles.specs.declared.Converted.TheVariants.{Exact, Below, Above}
use Rattle.unpack.specs.Double.{double_precision, double_least, double_most, sign_bit, packed, double}

-- ---- any format: so many bits, and exponents from least to most, counted

-- only what is selected is judged by its exponent
unfoldable pub ranged_in : ℕ → ℕ → ℕ → Answer → Answer
ranged_in least most e a = cond (ltb most e) too_large (cond (ltb e least) too_small a)

-- the size m > 0 in units of 2 ^ s, with its sign
unfoldable pub selected_in : ℕ → ℕ → ℕ → Way → ℕ → Bool → ℕ → Answer
selected_in bits least most w s negative m =
    let c = chosen w bits m in
    let e = size c + s in
    ranged_in least most e (number negative e (digits bits c) (signed negative (compare c m)))

-- "Zero gives the exact zero of its sign."
unfoldable pub converted_in : ℕ → ℕ → ℕ → Mode → Operand → Answer
converted_in bits least most o x =
    cond x.is_zero (zero_of x.negative)
    (selected_in bits least most (way o x.negative) (last_weight x) x.negative (mantissa x))

-- ---- doubles

unfoldable pub in_doubles : Mode → Operand → Answer
in_doubles mode x = converted_in double_precision double_least double_most mode x

-- 12 and 13 have the place 0
unfoldable pub outside : Rule → Result Converted Refusal
outside rule = Err (record { rule = rule; place = Call })

-- the case of each ternary value, the sign of selected minus exact: −1 below, 0 exact, 1 above
unfoldable pub case_of : ℤ → Float → Converted
case_of (pos zero) d = Exact d
case_of (pos (suc n)) d = Above d
case_of (negsuc n) d = Below d

-- "exact, with the double; the double lies below the number; it lies above; refused 12 or 13"
unfoldable pub double_case : Answer → Result Converted Refusal
double_case (zero_of negative) = Ok (Exact (double (sign_bit negative)))
double_case (number negative e d t) = Ok (case_of (ternary_of t) (double (packed negative e d)))
double_case too_large = outside DoubleTooLarge
double_case too_small = outside DoubleTooSmall

-- "Comparing and converting check 1 to 5 as far as they have those arguments"
unfoldable pub converted_of : ℕ → Operand → Result Converted Refusal
converted_of mode x = then (converted_refusal mode x) (double_case (in_doubles (mode_of mode) x))

-- ---- this paper's number and values for each case

-- −1 the double lies below the number, 0 exact, 1 it lies above; its bits; the refusal's number and place. A refusal is 0 beside its number
pub record Told : Type 0 where
  pub case : ℤ
  pub bits : ℕ
  pub rule : ℕ
  pub place : ℕ

unfoldable pub told_case : Converted → Told
told_case (Exact d) = record { case = pos 0; bits = to_bits binary64 d; rule = 0; place = 0 }
told_case (Below d) = record { case = negsuc 0; bits = to_bits binary64 d; rule = 0; place = 0 }
told_case (Above d) = record { case = pos 1; bits = to_bits binary64 d; rule = 0; place = 0 }

unfoldable pub told_refusal : Refusal → Told
told_refusal r = record { case = pos 0; bits = 0; rule = rule_number r.rule; place = place_number r.place }

unfoldable pub told : Result Converted Refusal → Told
told (Ok c) = told_case c
told (Err r) = told_refusal r

-- what is to be told of an answer
unfoldable pub told_answer : Answer → Told
told_answer (zero_of negative) = record { case = pos 0; bits = sign_bit negative; rule = 0; place = 0 }
told_answer (number negative e d t) = record { case = ternary_of t; bits = packed negative e d; rule = 0; place = 0 }
told_answer too_large = record { case = pos 0; bits = 0; rule = 12; place = 0 }
told_answer too_small = record { case = pos 0; bits = 0; rule = 13; place = 0 }

-- .. and of a call
unfoldable pub told_call : Result (Unit {0}) Refusal → Told → Told
told_call (Ok u) t = t
told_call (Err r) t = told_refusal r

unfoldable pub told_of : ℕ → Operand → Told
told_of mode x = told_call (converted_refusal mode x) (told_answer (in_doubles (mode_of mode) x))
