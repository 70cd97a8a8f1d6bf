-- `wide::beside` is right since a number that is not 0 lends one. Assumes nothing.
use mathlib.Core.Path.{refl, sym, ◌∙◌}
use mathlib.Core.Bool.{true≢false}
use Rattle.wide.proofs.InHollow.{number_falls}
use Rattle.wide.proofs.hollow.beside.Goals as goal

pub returns-then-same : goal.returns-then-same
returns-then-same c = record { size = refl; more = λ s. (refl, refl); less = λ s. absurd (true≢false (sym c.if-same.true ∙ s)) }

pub returns : goal.returns
returns c = record { size = c.change_from.ensures.same_length; more = λ s. absurd (true≢false (sym s ∙ c.if-same.false)); less = λ s. (number_falls _ _ _ _ (λ i. (c.type_inv.target i).fits) refl c.change_from.ensures, refl) }
