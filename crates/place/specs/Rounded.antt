-- The one answer, and the one state of the target, that follow from a run. Definitions only.
use Rattle.std.specs.Prelude.{ℕ, Bool, cond, List, eqb, pos}
use Rattle.rounding.specs.declared.Mode.{Mode}
use Rattle.place.specs.declared.Placed.{Placed}
use Rattle.place.specs.Placed.{run_number, run_answer, run_rule, placed_of, limbs_after}

-- the run refused by a rule
unfoldable pub refused_by : ℕ → Placed
refused_by rule = record { rule = rule; exponent = 0; ternary = pos 0 }

-- mode, precision, sign and weight; then the run
unfoldable pub rounded_placed : Mode → ℕ → Bool → ℕ → Bool → List ℕ → ℕ → Bool → Placed
rounded_placed mode p negative unit carry target guard more =
    cond (eqb (run_rule p carry target unit) 0)
    (placed_of (run_answer mode p negative unit (run_number carry target guard more)))
    (refused_by (run_rule p carry target unit))

-- "Under 1 to 5 .. the target is untouched. Under 6 and 7 .. the target's limbs are all 0."
unfoldable pub rounded_limbs : Mode → ℕ → Bool → ℕ → Bool → List ℕ → ℕ → Bool → List ℕ
rounded_limbs mode p negative unit carry target guard more =
    cond (eqb (run_rule p carry target unit) 0)
    (limbs_after p (run_answer mode p negative unit (run_number carry target guard more)))
    target
