-- `short::close::write` is right since two limbs of zeros are set. Assumes nothing.
use mathlib.Core.Path.{ap, ◌∙◌}
use mathlib.Core.List.{List}
use Prim.Native.Nat.{ℕ, ◌-◌, ◌^◌}
use native.Mathlib.Omega.{arith}
use lib.ListN.{length, set, length-set}
use Rattle.limb.specs.Value.{value_of}
use Rattle.short.proofs.Combined.{written_value}
use borrow.Author.Rules.{rules}
use Rattle.short.proofs.close.write.Goals as goal

pub bounds-target-n-2 : goal.bounds-target-n-2
bounds-target-n-2 c = simp length-set (omega (arith, c.clear.auto.target, c.requires))

pub returns : goal.returns
returns c =
    let n : ℕ = length c.args.target.now in
    (search rules, ap (λ (l : List ℕ). value_of (set (set l (n - 1) c.args.high) (n - 2) c.args.low)) c.clear.ensures ∙ written_value (2 ^ 64) n c.args.high c.args.low c.requires)
