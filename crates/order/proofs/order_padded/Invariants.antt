-- `order::order_padded`: the limbs passed are equal, the first difference decides, and past both ends nothing is left. Assumes nothing.
use mathlib.Core.Path.{◌≡◌}
use Prim.Native.Nat.{◌-◌, ◌^◌, ◌≤◌}
use Rattle.order.proofs.Head.{head}
use Rattle.order.proofs.order_padded.Given as goal

abbrev pub invariant-loop-i : goal.invariant-loop-i
invariant-loop-i l = (l.i ≤ l.i-end) × (head (2 ^ 64) l.i l.xl ≡ head (2 ^ 64) l.i l.yl)

abbrev pub decreases-loop-i : goal.decreases-loop-i
decreases-loop-i l = l.i-end - l.i
