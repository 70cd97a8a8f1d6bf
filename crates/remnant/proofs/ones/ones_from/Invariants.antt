-- `remnant::ones::ones_from` is right since a limb of all ones takes 64 ones off, and the top limb has what is left. Assumes nothing.
use mathlib.Core.Path.{◌≡◌}
use Prim.Native.Nat.{suc, ◌+◌, ◌-◌, ◌*◌, ◌^◌}
use lib.Dec.{eqb}
use lib.ListN.{drop}
use Rattle.limb.specs.Value.{value_in}
use Rattle.remnant.proofs.ones.ones_from.Given as goal

abbrev pub invariant-loop-limb : goal.invariant-loop-limb
invariant-loop-limb l =
    eqb (suc (value_in (2 ^ 64) (drop (l.from + l.limb-index) l.target))) (2 ^ (l.count - 64 * l.limb-index)) ≡ eqb (suc (value_in (2 ^ 64) (drop l.from l.target))) (2 ^ l.count)
