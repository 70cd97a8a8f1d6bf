-- `remnant::rest::with_tail` is right since a word of zeros, of ones or of neither tells of the tail what the tests ask. Assumes nothing.
use Rattle.remnant.proofs.Resting.{tail_none, tail_zeros, tail_ones, tail_mixed}
use Rattle.remnant.proofs.rest.with_tail.Goals as goal

pub returns-in-Empty : goal.returns-in-Empty
returns-in-Empty c = rw c.in-Empty.is (tail_none c.args.x)

pub returns-in-Zeros : goal.returns-in-Zeros
returns-in-Zeros c = rw c.in-Zeros.is (tail_zeros c.args.x c.longer_rest.result c.longer_rest.ensures)

pub returns-in-Ones : goal.returns-in-Ones
returns-in-Ones c = rw c.in-Ones.is (tail_ones c.args.x c.longer_rest-in-Ones.result c.longer_rest-in-Ones.ensures)

pub returns-in-Mixed : goal.returns-in-Mixed
returns-in-Mixed c = rw c.in-Mixed.is (tail_mixed c.args.x c.longer_rest-in-Mixed.result c.longer_rest-in-Mixed.ensures)
