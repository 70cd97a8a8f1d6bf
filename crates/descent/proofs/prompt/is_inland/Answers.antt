-- `descent::prompt::is_inland` is right by its tests. Assumes nothing.
use mathlib.Core.Path.{sym, ◌∙◌}
use mathlib.Core.Bool.{true≢false}
use borrow.Author.Tests.{not-true}
use Rattle.descent.proofs.prompt.is_inland.Goals as goal

pub returns-then-pair : goal.returns-then-pair
returns-then-pair c = λ e. record { high = λ s. sym c.is_high.ensures ∙ not-true _ e; low = λ s. absurd (true≢false (sym c.if-pair.true ∙ s)) }

pub returns-else-pair : goal.returns-else-pair
returns-else-pair c = λ e. record { high = λ s. absurd (true≢false (sym s ∙ c.if-pair.false)); low = λ s. sym c.is_low.ensures ∙ not-true _ e }
