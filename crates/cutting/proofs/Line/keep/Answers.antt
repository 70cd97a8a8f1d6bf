-- `cutting::Line::keep`: the byte goes behind those that are held, or the buffer is full. Assumes nothing.
use Rattle.std.proofs.Common.{arith}
use Rattle.cutting.proofs.Keeping.{kept, full}
use Rattle.cutting.proofs.Line.keep.Goals as goal

pub returns-then-self-clause-kept : goal.returns-then-self-clause-kept
returns-then-self-clause-kept c = let s = c.args.self.now in full s.bytes.now s.held c.args.b c.requires.1 (omega arith)

pub returns-clause-kept : goal.returns-clause-kept
returns-clause-kept c = let s = c.args.self.now in kept s.bytes.now s.held c.args.b c.requires.1 (omega arith)
