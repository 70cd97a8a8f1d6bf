-- `writer::kind_byte`: the table of the definition. Assumes nothing.
use Rattle.lines.specs.Line.{kind_byte}
use Rattle.writer.proofs.kind_byte.Goals as goal

pub returns-then-negative : goal.returns-then-negative
unfolding kind_byte
returns-then-negative c = rw (c.in-Regular.is, c.if-negative.true)

pub returns-else-negative : goal.returns-else-negative
unfolding kind_byte
returns-else-negative c = rw (c.in-Regular.is, c.if-negative.false)

pub returns-then-negative-2 : goal.returns-then-negative-2
unfolding kind_byte
returns-then-negative-2 c = rw (c.in-Zero.is, c.if-negative-2.true)

pub returns-else-negative-2 : goal.returns-else-negative-2
unfolding kind_byte
returns-else-negative-2 c = rw (c.in-Zero.is, c.if-negative-2.false)
