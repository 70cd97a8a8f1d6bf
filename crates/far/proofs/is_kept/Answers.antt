-- `far::is_kept` is right since each answer is that of its test. Assumes nothing.
use mathlib.Core.Path.{sym, ◌∙◌}
use mathlib.Core.Bool.{true≢false, false≢true}
use borrow.Author.Rules.{rules}
use Rattle.far.proofs.is_kept.Goals as goal

pub returns-then-p-pair : goal.returns-then-p-pair
returns-then-p-pair c = λ e. absurd (false≢true e)

pub returns-then-pair : goal.returns-then-pair
returns-then-pair c = λ e. (search rules, λ u. absurd (true≢false (sym c.if-pair.true ∙ u)))

pub returns : goal.returns
returns c = λ e. (search rules, λ u. sym c.rounds_up.ensures ∙ e)
