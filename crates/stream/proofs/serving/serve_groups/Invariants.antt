-- `stream::serve_groups`: what was printed so far, and then what the rest prints. Assumes nothing.
use Rattle.std.proofs.Common.{◌-◌, length}
use Rattle.cutting.specs.Held.{SameBuffers}
use Rattle.stream.specs.Serving.{state_of}
use Rattle.stream.proofs.Pieces.{Serving}
use Rattle.stream.proofs.serving.serve_groups.Given as goal

abbrev pub invariant-loop-taken : goal.invariant-loop-taken
invariant-loop-taken l =
    Serving l.most (state_of l.initial.lines) l.bytes l.initial.out (state_of l.lines) l.out l.taken l.told × SameBuffers l.initial.lines l.lines

abbrev pub decreases-loop-taken : goal.decreases-loop-taken
decreases-loop-taken l =
    length l.bytes - l.taken
