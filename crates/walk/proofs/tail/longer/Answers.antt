-- `walk::tail::longer` is right since one column more keeps zeros only where it is 0 and ones only where it is all ones. Assumes nothing.
use native.Mathlib.Omega.{arith}
use Rattle.walk.proofs.Tails.{empty_zeros, empty_ones, empty_mixed, zeros_zeros, zeros_mixed, ones_ones, ones_mixed, mixed_mixed}
use Rattle.walk.proofs.tail.longer.Goals as goal

pub returns-then-low-eq0 : goal.returns-then-low-eq0
returns-then-low-eq0 c = rw c.in-Empty.is (empty_zeros c.args.low c.if-low-eq0.true)

pub returns-then-low-eq18446744073709551615 : goal.returns-then-low-eq18446744073709551615
returns-then-low-eq18446744073709551615 c = rw c.in-Empty.is (empty_ones c.args.low (omega arith))

pub returns-else-low-eq18446744073709551615 : goal.returns-else-low-eq18446744073709551615
returns-else-low-eq18446744073709551615 c = rw c.in-Empty.is (empty_mixed c.args.low (omega arith) (omega arith))

pub returns-then-low-eq0-2 : goal.returns-then-low-eq0-2
returns-then-low-eq0-2 c = rw c.in-Zeros.is (zeros_zeros c.args.low (omega arith))

pub returns-else-low-eq0-2 : goal.returns-else-low-eq0-2
returns-else-low-eq0-2 c = rw c.in-Zeros.is (zeros_mixed c.args.low (omega arith) (omega arith))

pub returns-then-low-eq18446744073709551615-2 : goal.returns-then-low-eq18446744073709551615-2
returns-then-low-eq18446744073709551615-2 c = rw c.in-Ones.is (ones_ones c.args.low (omega arith))

pub returns-else-low-eq18446744073709551615-2 : goal.returns-else-low-eq18446744073709551615-2
returns-else-low-eq18446744073709551615-2 c = rw c.in-Ones.is (ones_mixed c.args.low (omega arith))

pub returns-in-Mixed : goal.returns-in-Mixed
returns-in-Mixed c = rw c.in-Mixed.is (mixed_mixed c.args.low (omega arith))
