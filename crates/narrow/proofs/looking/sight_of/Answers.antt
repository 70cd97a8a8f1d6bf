-- `looking::sight_of`: what is told of two operands in order is told of them in their own. Assumes nothing.
use native.Mathlib.Omega.{arith}
use Rattle.numbers.proofs.Limits.{two_digits}
use Rattle.narrow.proofs.InOrder.{looked}
use Rattle.narrow.proofs.looking.sight_of.Goals as goal

pub returns : goal.returns
returns c =
    let t = c.args.tops in
    λ o x y h told. looked o t.precision (omega (arith, two_digits, t.facing.least)) c.args.seen c.args.swapped x y t.pair t.first t.second c.either.ensures c.either-2.ensures h told
