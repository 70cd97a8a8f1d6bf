-- `checks::top_bit_holds`: with no limb the definition reads 0, and else the top limb. Assumes nothing.
use mathlib.Core.Path.{refl}
use Rattle.checks.specs.Check.{top_bit_holds}
use Rattle.checks.proofs.Tests.{empty_top}
use Rattle.checks.proofs.top_bit_holds.Goals as goal

pub returns-then-n-eq0 : goal.returns-then-n-eq0
returns-then-n-eq0 c = empty_top _ c.if-n-eq0.true

pub returns : goal.returns
unfolding top_bit_holds
returns c = refl
