-- `wide::is_inside` is right since a limb has 64 digits less the zeros before its first one. Assumes nothing.
use native.Mathlib.Omega.{arith}
use Rattle.wide.proofs.GuardBelow.{limb_digits}
use Rattle.wide.proofs.guarded.is_inside.Goals as goal

pub overflow_cast-drop : goal.overflow_cast-drop
overflow_cast-drop c = let d = limb_digits c.args.top c.requires (omega arith) in omega (arith, d.0)

pub overflow_sub-drop : goal.overflow_sub-drop
overflow_sub-drop c = let d = limb_digits c.args.top c.requires (omega arith) in omega (arith, d.0, d.1)

pub lies_inside-requires : goal.lies_inside-requires
lies_inside-requires c = let d = limb_digits c.args.top c.requires (omega arith) in omega (arith, d.0, d.1, d.2)

pub returns : goal.returns
returns c = let d = limb_digits c.args.top c.requires (omega arith) in λ e. rw d.0 at (c.lies_inside.ensures e)
