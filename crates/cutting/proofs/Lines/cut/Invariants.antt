-- `cutting::Lines::cut`: after i bytes the group is what those bytes make of it. Assumes nothing.
use Rattle.cutting.specs.Held.{counts_in, SameBuffers}
use Rattle.cutting.proofs.Underway.{Going}
use Rattle.cutting.proofs.Lines.cut.Given as goal

abbrev pub invariant-loop-i : goal.invariant-loop-i
invariant-loop-i l =
    Going (counts_in l.initial.self) l.bytes l.initial.self.first.bytes.now l.initial.self.second.bytes.now l.initial.self.third.bytes.now l.self.first.bytes.now l.self.second.bytes.now l.self.third.bytes.now (counts_in l.self) l.i × SameBuffers l.initial.self l.self
