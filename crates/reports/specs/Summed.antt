-- What add, subtract and re-round answer, and what they leave in the target. Definitions only.
use Rattle.std.specs.Prelude.{ℕ, ◌≤◌, ◌≡◌, List, pos, length, Ok, Err}
use Rattle.numbers.specs.Operand.{Operand, zero_like}
use Rattle.rounding.specs.Mode.{mode_of}
use Rattle.rounding.specs.declared.Mode.{Mode}
use Rattle.rounding.specs.Answer.{Answer, zero_of, number, too_large, too_small}
use Rattle.depth.specs.Columns.{top_exponent, limbs_used}
use Rattle.depth.specs.Depth.{Operation, plus, result, Depth}
use Rattle.depth.specs.Bound.{deepest}
use Rattle.checks.specs.declared.Number.{Number}
use Rattle.checks.specs.declared.Refusal.{Refusal}
use Rattle.checks.specs.declared.Rule.TheVariants.{TooLarge, TooSmall}
use Rattle.checks.specs.declared.Place.TheVariants.{Target}
use Rattle.checks.specs.declared.Kind.TheVariants.{Regular, Zero}
use Rattle.checks.specs.Number.{operand_of, exponent_of}
use Rattle.checks.specs.Check.{accepted, pair_refusal, single_refusal}
use Rattle.place.specs.Placed.{limbs_after}
use Rattle.location.specs.Ternary.{ternary_of}
use Rattle.reports.specs.declared.report.Sum.{Sum}

unfoldable pub refused_sum : Refusal → ℕ → ℕ → ℕ → Sum
refused_sum r depth first second = record { depth = depth; first = first; answer = Err r; second = second }

-- an answer as it is reported; refusals 6 and 7 have place 3. "A zero result has exponent 0, ternary 0 and all target limbs 0."
unfoldable pub sum_of : Answer → ℕ → ℕ → ℕ → ℕ → Sum
sum_of (zero_of negative) p depth first second = record { depth = depth; first = first; answer = Ok (record { number = record { negative = negative; kind = Zero; precision = p; exponent = pos 0 }; ternary = pos 0 }); second = second }
sum_of (number negative e m t) p depth first second = record { depth = depth; first = first; answer = Ok (record { number = record { negative = negative; kind = Regular; precision = p; exponent = exponent_of e }; ternary = ternary_of t }); second = second }
sum_of too_large p depth first second = refused_sum (record { rule = TooLarge; place = Target }) depth first second
sum_of too_small p depth first second = refused_sum (record { rule = TooSmall; place = Target }) depth first second

-- where checks 1 to 5 pass: the answer of demand 2, the depth of demand 3, the limbs used in operand order, and the target's limbs
pub record Reported (f : Operation) (o : Mode) (p : ℕ) (x y : Operand) (exit : List ℕ) (r : Sum) : Type 0 where
  pub depth : Depth f o p x y r.depth
  pub bounded : r.depth ≤ deepest
  pub answer : r ≡ sum_of (result f o p x y) p r.depth (limbs_used (top_exponent x y) r.depth x) (limbs_used (top_exponent x y) r.depth y)
  pub target : exit ≡ limbs_after p (result f o p x y)

-- "Under 1 to 5 depth and limb counts are 0 and the target is untouched."
pub record Refused (c : Refusal) (entry exit : List ℕ) (r : Sum) : Type 0 where
  pub answer : r ≡ refused_sum c 0 0 0
  pub target : exit ≡ entry

-- add (plus) and subtract (minus)
pub record Summed (f : Operation) (mode : ℕ) (x : Number) (xl : List ℕ) (y : Number) (yl : List ℕ) (p : ℕ) (entry exit : List ℕ) (r : Sum) : Type 0 where
  pub refused : (c : Refusal) → pair_refusal mode (operand_of x xl) (operand_of y yl) p (length entry) ≡ Err c → Refused c entry exit r
  pub reported : pair_refusal mode (operand_of x xl) (operand_of y yl) p (length entry) ≡ accepted → Reported f (mode_of mode) p (operand_of x xl) (operand_of y yl) exit r

-- re-round: "reports as addition of a zero does"
pub record Rerounded (mode : ℕ) (x : Number) (xl : List ℕ) (p : ℕ) (entry exit : List ℕ) (r : Sum) : Type 0 where
  pub refused : (c : Refusal) → single_refusal mode (operand_of x xl) p (length entry) ≡ Err c → Refused c entry exit r
  pub reported : single_refusal mode (operand_of x xl) p (length entry) ≡ accepted → Reported plus (mode_of mode) p (operand_of x xl) (zero_like (operand_of x xl)) exit r
