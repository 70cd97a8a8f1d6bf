-- `columns::limb_below_top` is right since the limb i below the top of n is limb n - 1 - i. Assumes nothing.
use mathlib.Core.Path.{◌≡◌, refl, ◌∙◌}
use Prim.Native.Nat.{ℕ, suc, ◌-◌}
use native.Mathlib.Omega.{arith}
use lib.ListN.{length}
use borrow.Author.Tests.{lt-ltb, le-ltb}
use Rattle.checks.specs.Number.{fetched}
use Rattle.columns.specs.Column.{limb_below}
use Rattle.columns.proofs.limb_below_top.Goals as goal

pub returns-then-i-n : goal.returns-then-i-n
unfolding limb_below fetched
returns-then-i-n c =
    let g = c.args in
    let n : ℕ = length g.limbs.now in
    let e : n - 1 - g.i ≡ n - suc g.i = omega arith in
    c.fetch.ensures ∙ rw (lt-ltb g.i n c.if-i-n.true, e) refl

pub returns-else-i-n : goal.returns-else-i-n
unfolding limb_below
returns-else-i-n c =
    let g = c.args in
    rw (le-ltb g.i (length g.limbs.now) c.if-i-n.false) refl
