-- `answering::answer_lines_in`: no more is held than there is room for. Assumes nothing.
use Rattle.std.proofs.Common.{◌≤◌}
use Rattle.vectors.proofs.answering.answer_lines_in.Given as goal

abbrev pub invariant-loop : goal.invariant-loop
invariant-loop g l = l.held ≤ g.row.ROOM
