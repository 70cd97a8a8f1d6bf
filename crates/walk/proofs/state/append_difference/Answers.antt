-- `walk::append_difference` is right since the limb of the difference stands below and its borrow changes what is above by one. Assumes nothing.
use native.Mathlib.Nat.{pos_of_ne-zero}
use Rattle.limb.specs.Carry.{bit}
use Rattle.walk.proofs.Walking.{difference_led, difference_appended}
use borrow.Author.Rules.{rules}
use Rattle.walk.proofs.state.append_difference.Goals as goal

pub returns-then-filled-eq0 : goal.returns-then-filled-eq0
unfolding bit
returns-then-filled-eq0 c =
    let g = c.args in
    let d = c.sub_borrow-s in
    let p = c.lead in
    difference_led g.w p.result g.a g.b g.target.now p.new.target d.result.limb d.result.carry d.ensures p.ensures

pub returns : goal.returns
unfolding bit
returns c =
    let g = c.args in
    let d = c.sub_borrow-s in
    let p = c.append in
    difference_appended g.w p.result g.a g.b g.target.now p.new.target d.result.limb (λ i. (c.slice_known-1.given i).fits) (pos_of_ne-zero c.if-filled-eq0.false) (search rules)
    d.result.carry d.ensures (rw c.then_some.ensures at p.ensures)
