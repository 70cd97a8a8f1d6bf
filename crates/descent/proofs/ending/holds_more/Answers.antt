-- `descent::ending::holds_more`: a tail of ones or of mixed digits is no 0, and the others are. Assumes nothing.
use Rattle.descent.proofs.Parts.{empty_more, zeros_more, ones_more, mixed_more}
use Rattle.descent.proofs.ending.holds_more.Goals as goal

pub returns-in-Empty : goal.returns-in-Empty
returns-in-Empty c = rw c.in-Empty.is empty_more

pub returns-in-Zeros : goal.returns-in-Zeros
returns-in-Zeros c = rw c.in-Zeros.is zeros_more

pub returns-in-Ones : goal.returns-in-Ones
returns-in-Ones c = rw c.in-Ones.is ones_more

pub returns-in-Mixed : goal.returns-in-Mixed
returns-in-Mixed c = rw c.in-Mixed.is mixed_more
