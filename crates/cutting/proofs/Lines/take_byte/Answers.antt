-- `cutting::Lines::take_byte`: one buffer grows by a byte, by which line is under way. Assumes nothing.
use Rattle.std.proofs.Common.{arith}
use Rattle.cutting.proofs.Taking.{takes_first, takes_second, takes_third, remaining}
use Rattle.cutting.proofs.Lines.take_byte.Goals as goal

pub returns-in-0-clause-took : goal.returns-in-0-clause-took
returns-in-0-clause-took c = takes_first _ _ _ _ _ _ _ _ c.requires.0 c.lines_after-self.ensures (omega arith) c.keep.ensures.kept c.keep.ensures.grown

pub returns-in-1-clause-took : goal.returns-in-1-clause-took
returns-in-1-clause-took c = takes_second _ _ _ _ _ _ _ _ c.requires.0 c.lines_after-self.ensures (λ e. omega arith) (omega arith) c.keep-in-1.ensures.kept c.keep-in-1.ensures.grown

pub returns-in_default-clause-took : goal.returns-in_default-clause-took
returns-in_default-clause-took c =
    takes_third _ _ _ _ _ _ _ _ c.requires.0 c.lines_after-self.ensures (λ e. omega arith) (λ e. omega arith) (omega arith) c.keep-in_default.ensures.kept c.keep-in_default.ensures.grown
