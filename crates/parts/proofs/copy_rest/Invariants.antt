-- `parts::copy_rest` is right since in every turn the limbs below limb i are the source's. Assumes nothing.
use Rattle.parts.specs.Copied.{CopiedTo}
use Rattle.parts.proofs.copy_rest.Given as goal

abbrev pub invariant-loop-i : goal.invariant-loop-i
invariant-loop-i l = CopiedTo l.i l.source l.target
