-- `pieces::serve_pieces`: what is left of the input falls. Assumes nothing.
use Rattle.std.proofs.Common.{length}
use Rattle.tests_desk.proofs.pieces.serve_pieces.Given as goal

abbrev pub decreases-loop-rest : goal.decreases-loop-rest
decreases-loop-rest g l = length l.rest
