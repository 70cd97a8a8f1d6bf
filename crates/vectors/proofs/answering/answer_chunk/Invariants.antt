-- `answering::answer_chunk`: no more is held than there is room for. Assumes nothing.
use Rattle.std.proofs.Common.{◌≤◌}
use Rattle.vectors.proofs.answering.answer_chunk.Given as goal

abbrev pub invariant-loop-byte : goal.invariant-loop-byte
invariant-loop-byte g l = l.held ≤ g.row.ROOM
