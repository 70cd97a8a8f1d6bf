-- A number of p digits in a target, and the answer for a little more or a little less than it. Definitions only.
use Rattle.std.specs.Prelude.{◌≡◌, Bool, List, ℕ, ◌+◌, ◌-◌, ◌*◌, ◌%◌, ◌^◌, ◌≤◌, ◌<◌, length}
use Rattle.limb.specs.Value.{value_of, Below}
use Rattle.numbers.specs.Limits.{least_exponent, most_exponent, limbs_for}
use Rattle.numbers.specs.Operand.{spare_bits}
use Rattle.rounding.specs.Answer.{Answer}
use Rattle.rounding.specs.declared.Mode.{Mode}
use Rattle.place.specs.Placed.{run_answer}

-- p digits from the top of the target on, the first of them 1, and nothing below: a number whose exponent is in range, with room for the
-- digits of a limb below it
pub record Stored (p exponent : ℕ) (target : List ℕ) : Type 0 where
  pub some : 0 < p
  pub count : length target ≡ limbs_for p
  pub limb : Below (2 ^ 64) target
  pub lead : 2 ^ (64 * length target - 1) ≤ value_of target
  pub clean : value_of target % 2 ^ spare_bits p ≡ 0
  pub deep : 64 * (length target + 1) < exponent
  pub least : least_exponent ≤ exponent
  pub most : exponent ≤ most_exponent

-- mode, precision, sign and exponent; the number in the target and half of a digit more, in a limb below it
unfoldable pub above_answer : Mode → ℕ → Bool → ℕ → List ℕ → Answer
above_answer mode p negative exponent target = run_answer mode p negative (exponent - 64 * (length target + 1)) (2 * (value_of target * 2 ^ 64) + 1)

-- the same, and half of a digit less
unfoldable pub below_answer : Mode → ℕ → Bool → ℕ → List ℕ → Answer
below_answer mode p negative exponent target = run_answer mode p negative (exponent - 64 * (length target + 1)) (2 * (value_of target * 2 ^ 64) - 1)
