-- `settle::far_row`: each return is a case of the definition.
use Rattle.settle.proofs.Table.{far_hole, far_same_lem, far_unlike_lem}
use Rattle.settle.proofs.rows.far_row.Goals as goal

pub returns-then-pair-c : goal.returns-then-pair-c
returns-then-pair-c c = far_hole c.args.pair c.args.c c.if-pair-c.true

pub returns-then-pair : goal.returns-then-pair
returns-then-pair c = far_same_lem c.args.pair c.args.c c.if-pair-c.false c.if-pair.true

pub returns : goal.returns
returns c = far_unlike_lem c.args.pair c.args.c c.if-pair-c.false c.if-pair.false
