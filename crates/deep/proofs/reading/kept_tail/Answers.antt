-- `reading::kept_tail` is right since one column has none below it, and more go on with ones below an odd one and zeros below an even one. Assumes nothing.
use Rattle.deep.proofs.ReadingOn.{kept_empty, kept_ones, kept_zeros}
use Rattle.deep.proofs.reading.kept_tail.Goals as goal

pub returns-then-columns-eq1 : goal.returns-then-columns-eq1
returns-then-columns-eq1 c = let g = c.args in kept_empty g.odd g.columns c.if-columns-eq1.true

pub returns-then-odd : goal.returns-then-odd
returns-then-odd c = let g = c.args in kept_ones g.odd g.columns c.requires c.if-columns-eq1.false c.if-odd.true

pub returns-else-odd : goal.returns-else-odd
returns-else-odd c = let g = c.args in kept_zeros g.odd g.columns c.requires c.if-columns-eq1.false c.if-odd.false
