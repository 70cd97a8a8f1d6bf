-- `reader::kind_of`: the test of the definition. Assumes nothing.
use Rattle.lines.proofs.Fields.{regular_kind, zero_kind}
use Rattle.reader.proofs.kind_of.Goals as goal

pub returns-then-k-lt2 : goal.returns-then-k-lt2
returns-then-k-lt2 c = regular_kind _ c.if-k-lt2.true

pub returns : goal.returns
returns c = zero_kind _ c.if-k-lt2.false
