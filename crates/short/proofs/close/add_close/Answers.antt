-- `short::close::add_close` is right since two columns read all, and the sum has fewer digits than the answer. Assumes nothing.
use native.Mathlib.Omega.{arith}
use Rattle.short.proofs.Held.{sum_leads, sum_some, second_few, top_room}
use Rattle.short.proofs.NearSum.{near_tells}
use borrow.Author.Rules.{rules}
use Rattle.short.proofs.close.add_close.Goals as goal

pub combine-h-requires : goal.combine-h-requires
combine-h-requires c = (c.requires.3, sum_leads _ _ _ _ _ c.requires.2.holding c.requires.3)

pub normalize-n-requires : goal.normalize-n-requires
normalize-n-requires c =
    let t = top_room _ _ _ _ _ c.requires.2.holding in
    (rw c.combine-h.ensures.0 (sum_some _ _ _ _ _ c.requires.2.holding c.requires.3), c.combine-h.ensures.1, t.0, omega (arith, t.1))

pub depth-requires : goal.depth-requires
depth-requires c = (c.requires.3, second_few _ _ _ _ _ c.requires.2.holding)

pub returns : goal.returns
returns c =
    let n = c.normalize-n in
    let w = c.write in
    (w.ensures.0, λ o swapped z y h sign. near_tells c.args.p _ c.args.u c.args.v _ c.requires.0 c.requires.1 c.requires.3 c.requires.4 c.requires.5 o z y h n.result _ c.combine-h.ensures.0 n.ensures (search rules) (search rules) _ w.ensures.0 (λ i. (c.type_inv.target i).fits) w.ensures.1 c.args.negative sign c.depth.result c.depth.ensures swapped)
