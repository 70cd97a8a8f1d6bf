-- `select::rest_below`: the lowest limb, and the limbs between it and the two highest, are all that stands below these. Assumes nothing.
use mathlib.Core.Path.{refl, sym, ◌∙◌}
use Rattle.checks.specs.Number.{fetched}
use Rattle.select.proofs.Heads.{low_some, low_none}
use Rattle.select.proofs.rest_below.Goals as goal

pub returns-then-low-ne0 : goal.returns-then-low-ne0
unfolding fetched
returns-then-low-ne0 c = low_some _ (λ i. (c.type_inv.limbs i).fits) c.requires.0 (λ e. c.if-low-ne0.true (c.fetch-low.ensures ∙ e))

pub returns : goal.returns
unfolding fetched
returns c = low_none _ _ _ (λ i. (c.type_inv.limbs i).fits) c.requires.0 (sym c.fetch-low.ensures ∙ c.if-low-ne0.false) refl c.low_is_zero.ensures
