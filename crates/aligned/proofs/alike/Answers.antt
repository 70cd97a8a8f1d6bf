-- `aligned::alike` is right since the limbs from the top down are compared until two differ. Assumes nothing.
use native.Mathlib.Omega.{arith}
use Rattle.aligned.proofs.Parting.{alike_more, alike_none}
use borrow.Author.Rules.{rules}
use Rattle.aligned.proofs.alike.Goals as goal

pub loop-i-init : goal.loop-i-init
loop-i-init c = (search rules, alike_none c.args.a.now c.args.b.now c.requires)

pub loop-i-preserved : goal.loop-i-preserved
loop-i-preserved c =
    let l = c.loop-i in
    (search rules, alike_more _ l.i _ _ (omega arith) (search rules) l.invariant.1)
