-- `settle::seen_row`: each return is a case of the definition.
use borrow.Author.Tests.{lt-ltb, le-ltb}
use Rattle.settle.proofs.Table.{seen_both, seen_one, seen_less, seen_more}
use Rattle.settle.proofs.rows.seen_row.Goals as goal

pub returns-then-first-second : goal.returns-then-first-second
returns-then-first-second c = seen_both c.args.pair c.args.c c.if-pair.true c.if-first-second.true

pub returns-then-pair : goal.returns-then-pair
returns-then-pair c = seen_one c.args.pair c.args.c c.if-pair.true c.if-first-second.false

pub returns-then-second : goal.returns-then-second
returns-then-second c = seen_less c.args.pair c.args.c c.if-pair.false (lt-ltb _ _ c.if-second.true)

pub returns : goal.returns
returns c = seen_more c.args.pair c.args.c c.if-pair.false (le-ltb _ _ c.if-second.false)
