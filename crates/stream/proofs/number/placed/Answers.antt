-- `stream::placed`: by cases. Assumes nothing.
use mathlib.Core.Path.{refl}
use Rattle.desklines.specs.Answer.{placed}
use Rattle.stream.proofs.number.placed.Goals as goal

pub returns-in-Ok : goal.returns-in-Ok
unfolding placed
returns-in-Ok c = rw c.in-Ok.is refl

pub returns-in-Err : goal.returns-in-Err
unfolding placed
returns-in-Err c = rw c.in-Err.is refl
