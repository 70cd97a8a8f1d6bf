-- `desklines::longest_answer`: the longest line and the report. Assumes nothing.
use mathlib.Core.Path.{refl}
use Rattle.numbers.specs.Limits.{most_precision, limbs_for}
use Rattle.lines.specs.Line.{longest_line, shortest_line}
use Rattle.desklines.specs.Answer.{report_size, longest_answer}
use Rattle.desklines.proofs.telling.longest_answer.Goals as goal

pub returns : goal.returns
unfolding longest_answer report_size longest_line shortest_line limbs_for most_precision
returns c = refl
