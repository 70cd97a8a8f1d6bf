-- `short::apart::is_restored` is right since each answer is that of its test. Assumes nothing.
use mathlib.Core.Path.{sym, ◌∙◌}
use mathlib.Core.Bool.{false≢true}
use Rattle.short.proofs.apart.is_restored.Goals as goal

pub returns-then-pair : goal.returns-then-pair
returns-then-pair c = λ e. absurd (false≢true e)

pub returns : goal.returns
returns c = λ e. (c.if-pair.false, sym c.rounds_up.ensures ∙ e)
