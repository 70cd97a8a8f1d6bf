-- `run::limb_at` is right since the list reads 0 past its end, as the branch does. Assumes nothing.
use mathlib.Core.Path.{sym}
use lib.ListN.{get_or-eq_default}
use Rattle.parts.proofs.limb_at.Goals as goal

pub returns-else-i-s : goal.returns-else-i-s
returns-else-i-s c = sym (get_or-eq_default c.args.s.now 0 c.if-i-s.false)
