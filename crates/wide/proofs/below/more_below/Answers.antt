-- `wide::more_below` is right row by row. Assumes nothing.
use borrow.Author.Tests.{le-leb, lt-leb}
use Rattle.wide.proofs.Unread.{far_same_lem, far_unlike_lem, seen_same, seen_unlike}
use Rattle.wide.proofs.below.more_below.Goals as goal

pub returns-then-pair : goal.returns-then-pair
returns-then-pair c = λ some u h. far_same_lem _ _ some u h (le-leb _ _ c.if-c-pair.true) c.if-pair.true

pub returns-then-c-pair : goal.returns-then-c-pair
returns-then-c-pair c = λ some u h. far_unlike_lem _ _ some u h (le-leb _ _ c.if-c-pair.true) c.if-pair.false

pub returns-then-pair-2 : goal.returns-then-pair-2
returns-then-pair-2 c = λ some u h. seen_same _ _ some u h (lt-leb _ _ c.if-c-pair.false) c.if-pair-2.true

pub returns : goal.returns
returns c = λ some u h. seen_unlike _ _ some u h (lt-leb _ _ c.if-c-pair.false) c.if-pair-2.false
