-- `walk::state::lead` is right since nothing is filled yet, so that 0 or 1 stands above: with a borrow or without one, at most 1 is left there. Assumes nothing.
use native.Mathlib.Omega.{arith}
use Rattle.walk.proofs.Walking.{both_hold, led_pending, led_nothing, led_one, led_first}
use borrow.Author.Rules.{rules}
use Rattle.walk.proofs.state.lead.Goals as goal

pub returns-then-pending-borrow : goal.returns-then-pending-borrow
returns-then-pending-borrow c =
    let g = c.args in
    let p = c.append in
    let t = both_hold g.w.carry g.borrow c.if-pending-borrow.true in
    led_pending g.w g.low g.borrow g.target.now (search rules) c.requires.1 p.result p.new.target t.0 t.1 p.ensures

pub returns-then-low-eq0 : goal.returns-then-low-eq0
returns-then-low-eq0 c =
    let g = c.args in
    let s = c.start-none in
    led_nothing g.w g.low g.borrow g.target.now (search rules) c.requires.1 s.result c.if-pending-borrow.false c.if-low-eq0.true s.ensures.1

pub returns-then-low-eq1 : goal.returns-then-low-eq1
returns-then-low-eq1 c =
    let g = c.args in
    led_one g.w g.low g.borrow g.target.now (search rules) c.requires.1 c.if-pending-borrow.false c.if-low-eq1.true

pub append-requires-2 : goal.append-requires-2
append-requires-2 c = (c.start-here.ensures.1 c.args.target.now c.requires.0.limbs).fits

pub returns : goal.returns
returns c =
    let g = c.args in
    let s = c.start-here in
    let p = c.append-2 in
    led_first g.w g.low g.borrow g.target.now c.ranges.low.fits c.requires.1 s.result p.result p.new.target c.if-pending-borrow.false (omega arith) s.ensures.0 s.ensures.1 p.ensures
