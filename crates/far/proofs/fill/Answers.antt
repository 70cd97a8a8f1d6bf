-- `far::fill` is right since the limbs are copied, and what a little below them leaves is told of them. Assumes nothing.
use Rattle.far.proofs.fill.Goals as goal

pub returns : goal.returns
returns c = rw c.copy.ensures at c.beside.ensures
