-- `order::order_level`: the exponents are equal, so the limbs decide. Assumes nothing.
use mathlib.Core.Path.{ap}
use Rattle.numbers.specs.Limits.{counted}
use Rattle.order.proofs.Cases.{same_exponent}
use Rattle.order.proofs.order_level.Goals as goal

pub returns : goal.returns
returns c = same_exponent _ _ _ _ (ap counted c.requires.0) c.order_alike.ensures c.turned_if.ensures
