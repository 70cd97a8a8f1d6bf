-- `parts::copy` is right since after every turn the limbs below limb 8 * turn are the source's, and the limbs from the last turn's end on are
-- left to `copy_rest`. Assumes nothing.
use Prim.Native.Nat.{◌*◌}
use Rattle.parts.specs.Copied.{CopiedTo}
use Rattle.parts.proofs.copy.Given as goal

abbrev pub invariant-loop-turn : goal.invariant-loop-turn
invariant-loop-turn l = CopiedTo (8 * l.turn) l.source l.target
