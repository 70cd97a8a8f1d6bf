-- `lines::shortest_line`: the constant is what the definition gives. Assumes nothing.
use mathlib.Core.Path.{refl}
use Rattle.lines.specs.Line.{shortest_line}
use Rattle.lines.proofs.shortest_line.Goals as goal

pub returns : goal.returns
unfolding shortest_line
returns c = refl
