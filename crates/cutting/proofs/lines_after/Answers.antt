-- `stream::lines_after`: one line more after an LF. Assumes nothing.
use borrow.Author.Tests.{eq-eqb, ne_eqb}
use Rattle.lines.specs.Line.{line_feed}
use Rattle.cutting.specs.Lines.{ends_line}
use Rattle.cutting.proofs.lines_after.Goals as goal

pub returns-then-b-eq-LINE_END : goal.returns-then-b-eq-LINE_END
unfolding ends_line line_feed
returns-then-b-eq-LINE_END c = simp (eq-eqb _ _ c.if-b-eq-LINE_END.true)

pub returns-else-b-eq-LINE_END : goal.returns-else-b-eq-LINE_END
unfolding ends_line line_feed
returns-else-b-eq-LINE_END c = simp (ne_eqb _ _ c.if-b-eq-LINE_END.false)
