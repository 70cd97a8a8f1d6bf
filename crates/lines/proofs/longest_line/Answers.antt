-- `lines::longest_line`: the constant is what the definition gives for the largest precision. Assumes nothing.
use mathlib.Core.Path.{refl}
use Rattle.numbers.specs.Limits.{most_precision, limbs_for}
use Rattle.lines.specs.Line.{shortest_line, longest_line}
use Rattle.lines.proofs.longest_line.Goals as goal

pub returns : goal.returns
unfolding longest_line shortest_line most_precision limbs_for
returns c = refl
