-- `narrow::cancelled` is right since what cancels has two signs, of which one is told. Assumes nothing.
use mathlib.Core.Path.{refl}
use Rattle.narrow.proofs.seeing.cancelled.Goals as goal

pub returns : goal.returns
returns c = (c.zero_sign.ensures, refl, refl)
