-- `aligned::alike` is right since the limbs from the top down are compared until two differ. Assumes nothing.
use mathlib.Core.Path.{◌≡◌}
use Prim.Native.Nat.{◌-◌}
use lib.ListN.{length, drop}
use Rattle.limb.specs.Value.{value_of}
use Rattle.aligned.proofs.alike.Given as goal

abbrev pub invariant-loop-i : goal.invariant-loop-i
invariant-loop-i l = (l.n ≡ length l.a) × (value_of (drop (l.n - l.i) l.b) ≡ value_of (drop (l.n - l.i) l.a))
