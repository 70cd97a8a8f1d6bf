-- `desk::serve_piece`: what is left of the piece falls. Assumes nothing.
use Rattle.std.proofs.Common.{length}
use Rattle.desk.proofs.serve_piece.Given as goal

abbrev pub decreases-loop-rest : goal.decreases-loop-rest
decreases-loop-rest g l = length l.rest
