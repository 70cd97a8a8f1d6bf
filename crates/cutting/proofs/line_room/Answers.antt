-- `stream::line_room`: one byte more than the longest line. Assumes nothing.
use mathlib.Core.Path.{refl}
use Rattle.numbers.specs.Limits.{most_precision, limbs_for}
use Rattle.lines.specs.Line.{longest_line, shortest_line}
use Rattle.cutting.specs.Lines.{line_room}
use Rattle.cutting.proofs.line_room.Goals as goal

pub returns : goal.returns
unfolding line_room longest_line shortest_line limbs_for most_precision
returns c = refl
