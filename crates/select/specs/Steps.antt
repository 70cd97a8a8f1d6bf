-- What the steps to 53 digits hand on. Definitions only.
use Rattle.std.specs.Prelude.{ℕ, ◌+◌, ◌-◌, ◌*◌, ◌^◌, ◌<◌, ◌≡◌, not, List, [], ◌∷◌, eqb, length, get_or}
use Rattle.limb.specs.Value.{value_of}
use Rattle.numbers.specs.Operand.{Operand, mantissa, last_weight}
use Rattle.rounding.specs.Mode.{way}
use Rattle.rounding.specs.Answer.{Answer, rounded}
use Rattle.rounding.specs.declared.Mode.{Mode}
use Rattle.place.specs.Placed.{placed_of, limbs_after}
use Rattle.select.specs.declared.Head.{Head}
use Rattle.place.specs.declared.PlacedLimb.{PlacedLimb}
use Rattle.unpack.specs.Double.{double_precision}

-- the limbs, with a limb of 0 below them, are the top, the guard and a rest of as many limbs as stand below the top
pub record Leads (l : List ℕ) (h : Head) : Type 0 where
  pub top_is : h.top ≡ get_or l (length l - 1) 0
  pub rest : ℕ
  pub few : rest < 2 ^ (64 * (length l - 1))
  pub value : value_of l * 2 ^ 64 ≡ (h.top * 2 ^ 64 + h.guard) * 2 ^ (64 * (length l - 1)) + rest
  pub more : h.more ≡ not (eqb rest 0)

-- the number re-rounded to 53 digits, in the kernel's range of exponents
unfoldable pub shortened : Mode → Operand → Answer
shortened mode x = rounded (way mode x.negative) double_precision (last_weight x) x.negative (mantissa x)

pub record Selects (mode : Mode) (x : Operand) (r : PlacedLimb) : Type 0 where
  pub placed : r.placed ≡ placed_of (shortened mode x)
  pub limb : r.limb ∷ [] ≡ limbs_after double_precision (shortened mode x)
