-- `order::from_top`: within the list the limb is fetched, and below the lowest stands 0. Assumes nothing.
use mathlib.Core.Path.{sym, ◌∙◌}
use Rattle.checks.specs.Number.{fetched}
use Rattle.order.proofs.Head.{from_top_within, from_top_past}
use Rattle.order.proofs.from_top.Goals as goal

pub returns-then-i-limbs : goal.returns-then-i-limbs
unfolding fetched
returns-then-i-limbs c = c.fetch.ensures ∙ sym (from_top_within _ _ c.if-i-limbs.true)

pub returns : goal.returns
returns c = sym (from_top_past _ _ c.if-i-limbs.false)
