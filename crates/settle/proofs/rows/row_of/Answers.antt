-- `settle::row_of`: each return is a case of the definition.
use mathlib.Core.Path.{◌∙◌}
use Rattle.settle.proofs.Table.{alone_exact, alone_seen, pair_exact, pair_far, pair_seen}
use Rattle.settle.proofs.rows.row_of.Goals as goal

pub returns-then-pair-c : goal.returns-then-pair-c
returns-then-pair-c c = alone_exact _ _ c.if-pair-eq0.true c.if-pair-c.true

pub returns-then-pair-eq0 : goal.returns-then-pair-eq0
returns-then-pair-eq0 c = c.seen_row.ensures ∙ alone_seen _ _ c.if-pair-eq0.true c.if-pair-c.false

pub returns-then-pair-c-2 : goal.returns-then-pair-c-2
returns-then-pair-c-2 c = pair_exact _ _ c.if-pair-eq0.false c.if-pair-c-2.true

pub returns-then-c-pair : goal.returns-then-c-pair
returns-then-c-pair c = c.far_row.ensures ∙ pair_far _ _ c.if-pair-eq0.false c.if-pair-c-2.false c.if-c-pair.true

pub returns-else-c-pair : goal.returns-else-c-pair
returns-else-c-pair c = c.seen_row-else-c-pair.ensures ∙ pair_seen _ _ c.if-pair-eq0.false c.if-pair-c-2.false c.if-c-pair.false
