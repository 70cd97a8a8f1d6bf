-- `stream::sum`: by the operation. Assumes nothing.
use Rattle.desklines.specs.Order.{operation_of}
use Rattle.stream.proofs.answering.sum.Goals as goal

pub returns-in-Add : goal.returns-in-Add
unfolding operation_of
returns-in-Add c = rw c.in-Add.is c.add.ensures

pub returns-in-Subtract : goal.returns-in-Subtract
unfolding operation_of
returns-in-Subtract c = rw c.in-Subtract.is c.subtract.ensures
