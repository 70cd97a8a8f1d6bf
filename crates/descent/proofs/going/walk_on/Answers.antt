-- `descent::going::walk_on` is right since it goes on only where the columns read fix nothing. Assumes nothing.
use Rattle.descent.proofs.AtOnce.{on_going, on_underway, on_stopped, arriving_arrived}
use mathlib.Core.Path.{sym, ◌∙◌}
use Rattle.descent.proofs.going.walk_on.Goals as goal

pub judge-verdict-requires : goal.judge-verdict-requires
judge-verdict-requires c = (c.requires.0, arriving_arrived _ _ _ _ _ _ _ _ c.requires.1)

pub descend-requires : goal.descend-requires
descend-requires c = (c.requires.0, on_underway _ _ _ _ _ _ _ _ c.requires.0 _ c.judge-verdict.ensures (sym c.is_open.ensures ∙ c.if-is_open.true) c.requires.1)

pub returns-then-is_open : goal.returns-then-is_open
returns-then-is_open c = λ o x y h r u. c.descend.ensures o x y h (on_going _ _ _ _ _ _ _ _ c.requires.0 _ c.judge-verdict.ensures (sym c.is_open.ensures ∙ c.if-is_open.true) o x y h r)

pub returns : goal.returns
returns c = λ o x y h r u. on_stopped _ _ _ _ _ _ _ _ c.requires.0 _ c.judge-verdict.ensures (sym c.is_open.ensures ∙ c.if-is_open.false) o x y h r u
