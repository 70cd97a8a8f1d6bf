-- `descent::going::judge` is right row by row: what is all read is fixed, a hole is by its own test, and any other row by the class test or the range test. Assumes nothing.
use mathlib.Core.Path.{sym, ◌∙◌}
use Rattle.descent.proofs.JudgingRange.{digits_some, digits_few}
use Rattle.descent.proofs.JudgingRows.{arrived_modest, arrived_measured, arrived_hole, told_exact, told_plus, told_minus, told_hole}
use Rattle.descent.proofs.going.judge.Goals as goal

pub row_of-row-requires : goal.row_of-row-requires
row_of-row-requires c = arrived_modest _ _ _ _ _ _ c.requires.1

pub judge_hole-requires : goal.judge_hole-requires
judge_hole-requires c = (arrived_hole _ _ _ _ _ _ c.requires.1 _ (digits_some _ _ c.requires.0) (sym c.row_of-row.ensures ∙ c.in-Hole.is), digits_few _ _ c.requires.0)

pub judge_plus-requires : goal.judge_plus-requires
judge_plus-requires c = (c.requires.0, arrived_measured _ _ _ _ _ _ c.requires.1)

pub judge_minus-requires : goal.judge_minus-requires
judge_minus-requires c = (c.requires.0, arrived_measured _ _ _ _ _ _ c.requires.1)

pub returns-in-Exact : goal.returns-in-Exact
returns-in-Exact c = λ o x y h r. told_exact o _ (digits_some _ _ c.requires.0) x y _ _ _ _ h _ _ _ r (sym c.row_of-row.ensures ∙ c.in-Exact.is)

pub returns-in-Hole : goal.returns-in-Hole
returns-in-Hole c = λ o x y h r. told_hole o _ (digits_some _ _ c.requires.0) x y _ _ _ _ h _ _ _ r (sym c.row_of-row.ensures ∙ c.in-Hole.is) _ c.judge_hole.ensures

pub returns-in-Plus : goal.returns-in-Plus
returns-in-Plus c = λ o x y h r. told_plus o _ (digits_some _ _ c.requires.0) x y _ _ _ _ h _ _ _ r _ _ _ (sym c.row_of-row.ensures ∙ c.in-Plus.is) _ c.judge_plus.ensures

pub returns-in-Minus : goal.returns-in-Minus
returns-in-Minus c = λ o x y h r. told_minus o _ (digits_some _ _ c.requires.0) x y _ _ _ _ h _ _ _ r _ (sym c.row_of-row.ensures ∙ c.in-Minus.is) _ c.judge_minus.ensures
