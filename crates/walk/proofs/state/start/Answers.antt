-- `walk::start` is right since a window with nothing filled shows 0. Assumes nothing.
use mathlib.Core.Path.{refl}
use mathlib.Core.Bool.{false}
use Rattle.limb.specs.Carry.{bit}
use Rattle.walk.proofs.Showing.{show_start}
use Rattle.walk.proofs.state.start.Goals as goal

pub returns : goal.returns
unfolding bit
returns c = (refl, λ target l. show_start target c.args.skipped false l)
