-- What rounding a run of limbs answers and leaves. Definitions only.
use Rattle.std.specs.Prelude.{ℕ, ◌+◌, ◌-◌, ◌*◌, ◌^◌, Bool, cond, ◌&&◌, ◌||◌, List, ltb, leb, eqb, pos, length, get_or, replicate}
use Rattle.limb.specs.Value.{value_of}
use Rattle.limb.specs.Carry.{bit}
use Rattle.numbers.specs.Limits.{least_precision, most_precision, most_exponent, limbs_for}
use Rattle.numbers.specs.Limbs.{limbs_of}
use Rattle.numbers.specs.Operand.{spare_bits}
use Rattle.rounding.specs.Mode.{way}
use Rattle.rounding.specs.Answer.{Answer, zero_of, number, too_large, too_small, rounded}
use Rattle.rounding.specs.declared.Mode.{Mode}
use Rattle.location.specs.Ternary.{ternary_of}
use Rattle.place.specs.declared.Placed.{Placed}

-- The number that stands in a run, counted in halves of the guard's last digit: `more` says that something lies below, and counts as a half.
--
--     carry | target, top limb first | guard | more
--
unfoldable pub run_number : Bool → List ℕ → ℕ → Bool → ℕ
run_number carry target guard more = 2 * ((bit carry * 2 ^ (64 * length target) + value_of target) * 2 ^ 64 + guard) + bit more

-- the answer: the guard's last digit has the (counted) weight 2 ^ unit
unfoldable pub run_answer : Mode → ℕ → Bool → ℕ → ℕ → Answer
run_answer mode p negative unit n = rounded (way mode negative) p (unit - 1) negative n

-- what is answered: rule 6 and 7 are the refusals
unfoldable pub placed_of : Answer → Placed
placed_of (zero_of negative) = record { rule = 0; exponent = 0; ternary = pos 0 }
placed_of (number negative e m t) = record { rule = 0; exponent = e; ternary = ternary_of t }
placed_of too_large = record { rule = 6; exponent = 0; ternary = pos 0 }
placed_of too_small = record { rule = 7; exponent = 0; ternary = pos 0 }

-- what the target's limbs then are: the p digits with the spare bits 0, or all 0
unfoldable pub limbs_after : ℕ → Answer → List ℕ
limbs_after p (zero_of negative) = replicate (limbs_for p) 0
limbs_after p (number negative e m t) = limbs_of (limbs_for p) (m * 2 ^ spare_bits p)
limbs_after p too_large = replicate (limbs_for p) 0
limbs_after p too_small = replicate (limbs_for p) 0

-- a run that can be rounded: a precision in range, its limbs, a first digit in the carry or the top limb, a weight in sight
unfoldable pub run_rule : ℕ → Bool → List ℕ → ℕ → ℕ
run_rule p carry target unit =
    cond (leb least_precision p && leb p most_precision)
    (cond (eqb (length target) (limbs_for p))
    (cond (ltb 0 unit && leb unit (2 * most_exponent))
    (cond (carry || ltb 0 (get_or target (length target - 1) 0)) 0 5)
    4) 3) 2
