-- `walk::change_from` is right since at each step the part with a one still due at limb i, or lent there, is the part as it came, changed by one. Assumes nothing.
use Rattle.std.proofs.Common.{◌^◌, ◌≡◌, length}
use Rattle.limb.specs.Value.{value_in}
use Rattle.walk.specs.Change.{Balanced}
use Rattle.walk.proofs.change.change_from.Given as goal

abbrev pub invariant-loop-t : goal.invariant-loop-t
invariant-loop-t l =
    (length l.t-items ≡ length l.initial.t-items) × Balanced l.change 1 (value_in (2 ^ 64) l.t-items) (value_in (2 ^ 64) l.initial.t-items) ((2 ^ 64) ^ l.t-index)
