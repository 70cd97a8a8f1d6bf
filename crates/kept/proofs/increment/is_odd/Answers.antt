-- `kept::increment::is_odd` is right since the last kept digit stands in the lowest limb. Assumes nothing.
use mathlib.Core.Path.{ap}
use Prim.Native.Nat.{ℕ}
use lib.Dec.{eqb}
use Rattle.kept.proofs.Moves.{last_digit}
use Rattle.kept.proofs.increment.is_odd.Goals as goal

pub returns : goal.returns
returns c =
    ap (λ (m : ℕ). eqb m 1) (last_digit c.args.target.now c.args.spare c.requires.1)
