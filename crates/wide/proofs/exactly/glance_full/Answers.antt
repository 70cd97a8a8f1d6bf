-- `wide::glance_full` is right since a full target whose rest is known, or lies inside a half, fixes the answer. Assumes nothing.
use mathlib.Core.Path.{sym, ◌∙◌}
use Rattle.descent.proofs.GoingDown.{room_some}
use Rattle.wide.proofs.Unread.{row_read}
use Rattle.wide.proofs.FullTarget.{full, read_rounds, inside_rounds}
use Rattle.wide.proofs.exactly.glance_full.Goals as goal

pub has_lead-requires : goal.has_lead-requires
has_lead-requires c = room_some _ _ c.requires.0

pub returns-then-is_read : goal.returns-then-is_read
returns-then-is_read c = λ first second before w a o x y h. read_rounds _ _ first second before _ w _ c.requires.0 a (sym c.has_lead.ensures ∙ c.if-not-has_lead.false) o x y h (row_read _ _ c.requires.2 (sym c.is_read.ensures ∙ c.if-is_read.true))

pub returns : goal.returns
returns c = λ first second before w a o x y h. inside_rounds _ _ first second before _ w _ c.requires.0 a (sym c.has_lead.ensures ∙ c.if-not-has_lead.false) o x y h (c.is_inside.ensures (c.if-not-is_inside.false) w a.carry_is (full _ _ first second before _ w _ c.requires.0 a (sym c.has_lead.ensures ∙ c.if-not-has_lead.false) o x y h)) _ (c.more_below.ensures c.requires.2 (sym c.is_read.ensures ∙ c.if-is_read.false) (sym c.is_hollow.ensures ∙ c.if-is_hollow.false))
