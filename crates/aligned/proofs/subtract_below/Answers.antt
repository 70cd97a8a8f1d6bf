-- `aligned::subtract_below` is right since the lowest limbs are cleared, and the others become the difference, which borrows nothing. Assumes nothing.
use mathlib.Core.Path.{◌≡◌}
use Prim.Native.Nat.{ℕ, ◌-◌}
use native.Mathlib.Omega.{arith}
use lib.ListN.{length}
use Rattle.aligned.proofs.Stands.{subtracted}
use borrow.Author.Rules.{rules}
use Rattle.aligned.proofs.subtract_below.Goals as goal

flat : (m : ℕ) → m - 0 ≡ m
flat m = omega arith

pub returns : goal.returns
returns c =
    subtracted c.args.target.now c.args.first.now c.args.second.now _ _ c.args.z _ _ _ _ c.requires (flat c.args.z) (flat (length c.args.target.now - c.args.z)) c.clear.ensures c.difference.ensures (λ i. (c.type_inv.target i).fits) (search rules)
