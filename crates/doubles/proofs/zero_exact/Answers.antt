-- `doubles::zero_exact`: as the definition says. Assumes nothing.
use mathlib.Core.Path.{ap}
use Rattle.std.specs.Prelude.{Float, Ok}
use Rattle.doubles.specs.declared.Converted.TheVariants.{Exact}
use Rattle.doubles.specs.Convert.{double_case}
use Rattle.doubles.proofs.zero_exact.Goals as goal

pub returns : goal.returns
unfolding double_case
returns c = ap (λ (d : Float). Ok (Exact d)) c.zero_of.ensures
