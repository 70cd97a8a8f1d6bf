-- `checks::fetch`: within the list the limb is read, and past its end the list's default is 0. Assumes nothing.
use lib.ListN.{get_or-eq_default}
use mathlib.Core.Path.{refl, sym}
use Rattle.checks.specs.Number.{fetched}
use Rattle.checks.proofs.fetch.Goals as goal

pub returns-then-index-limbs : goal.returns-then-index-limbs
unfolding fetched
returns-then-index-limbs c = refl

pub returns : goal.returns
unfolding fetched
returns c = sym (get_or-eq_default c.args.limbs.now 0 c.if-index-limbs.false)
