-- `narrow::column::is_fixed` is right since the digits lie inside a half wherever the other two tests fail. Assumes nothing.
use mathlib.Core.Path.{◌∙◌}
use Rattle.limb.proofs.Tests.{second_true, true_false}
use Rattle.narrow.proofs.column.is_fixed.Goals as goal

pub returns-then-lies_inside : goal.returns-then-lies_inside
returns-then-lies_inside c = λ e whole hole. c.lies_inside.ensures c.if-lies_inside.true

pub returns : goal.returns
returns c = λ t whole hole. absurd (true_false (second_true _ _ t (c.is_whole.ensures ∙ whole)) (c.is_hole.ensures ∙ hole))
