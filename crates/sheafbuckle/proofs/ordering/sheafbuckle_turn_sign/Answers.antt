-- `ordering::sheafbuckle_turn_sign`: the kernel's own, over the number that the plain fields say. Assumes nothing.
use Rattle.plain.proofs.Told.{turned_told}
use Rattle.sheafbuckle.proofs.ordering.sheafbuckle_turn_sign.Goals as goal

pub returns : goal.returns
returns c = turned_told _ _ _ _ c.from.ensures c.turn_sign.ensures c.from-2.ensures
