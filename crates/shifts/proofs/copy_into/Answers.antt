-- `shifts::copy_into` is right since it copies as many of the lowest limbs as the target has. Assumes nothing.
use mathlib.Core.Path.{sym, subst}
use Prim.Native.Nat.{ℕ}
use native.Mathlib.Nat.{sub-zero}
use lib.ListN.{length}
use Rattle.limb.specs.Value.{value_of}
use Rattle.shifts.specs.LowLimbs.{LowLimbs}
use Rattle.shifts.proofs.Windows.{lowest_limbs}
use Rattle.shifts.proofs.copy_into.Goals as goal

pub returns : goal.returns
returns c =
    let n : ℕ = length c.args.target.now in
    subst (LowLimbs n (value_of c.args.s.now)) (sym (rw (sub-zero n) at c.copy.ensures))
    (lowest_limbs c.args.s.now n c.requires (λ i. (c.type_inv.s i).fits))
