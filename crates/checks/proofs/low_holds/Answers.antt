-- `checks::low_holds`: 2 to the number of spare bits divides the limb exactly where it ends in that many zeros, 64 at most. Assumes nothing.
use native.Mathlib.Omega.{arith}
use lib.Count.{trailing_le}
use Rattle.checks.proofs.Tests.{spare_zeros}
use Rattle.checks.proofs.low_holds.Goals as goal

pub overflow_cast-result : goal.overflow_cast-result
overflow_cast-result c = record { fits = omega (arith, trailing_le 64 c.args.low) }

pub returns : goal.returns
returns c = spare_zeros c.args.p c.args.low
