-- `shifts::window` is right since bit k is bit k % 64 of limb k / 64. Assumes nothing.
use mathlib.Core.Path.{◌≡◌}
use Prim.Native.Nat.{ℕ, ◌+◌, ◌*◌, ◌/◌, ◌%◌}
use native.Mathlib.Omega.{arith}
use Rattle.shifts.proofs.window.Goals as goal

pub returns : goal.returns
returns c =
    let k : ℕ = c.args.k in
    let whole : 64 * (k / 64) + k % 64 ≡ k = omega arith in
    rw whole at c.window_at.ensures
