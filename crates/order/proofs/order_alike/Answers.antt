-- `order::order_alike`: the limbs passed are equal, the first difference decides, and past both ends nothing is left. Assumes nothing.
use mathlib.Core.Path.{◌≡◌, sym, ap}
use Prim.Native.Nat.{◌-◌, ◌<◌}
use native.Mathlib.Omega.{arith}
use lib.ListN.{length, get_or}
use Rattle.checks.specs.Number.{fetched}
use Rattle.order.specs.Order.{case_of}
use Rattle.order.proofs.Head.{aligned_eq, alike_lt, alike_gt, alike_next, alike_none}
use borrow.Author.Rules.{rules}
use Rattle.order.proofs.order_alike.Goals as goal

pub loop-i-init : goal.loop-i-init
loop-i-init c = (search rules, alike_none c.args.xl.now c.args.yl.now)

pub returns-then-a-b-2 : goal.returns-then-a-b-2
unfolding case_of fetched
returns-then-a-b-2 c =
    let x = c.args.xl.now in
    let y = c.args.yl.now in
    let i = c.loop-i.i in
    let d : get_or x (i - 1) 0 < get_or y (i - 1) 0 = omega (arith, c.fetch-a.ensures, c.fetch-b.ensures, c.if-a-b-2.true) in
    ap case_of (sym (alike_lt x y c.requires i c.loop-i-test.true c.loop-i.invariant.0 c.loop-i.invariant.1 (λ i. (c.type_inv.xl i).fits) d))

pub returns-then-a-b : goal.returns-then-a-b
unfolding case_of fetched
returns-then-a-b c =
    let x = c.args.xl.now in
    let y = c.args.yl.now in
    let i = c.loop-i.i in
    let d : get_or y (i - 1) 0 < get_or x (i - 1) 0 = omega (arith, c.fetch-a.ensures, c.fetch-b.ensures, c.if-a-b.true, c.if-a-b-2.false) in
    ap case_of (sym (alike_gt x y c.requires i c.loop-i-test.true c.loop-i.invariant.0 c.loop-i.invariant.1 (λ i. (c.type_inv.yl i).fits) d))

pub loop-i-preserved : goal.loop-i-preserved
unfolding fetched
loop-i-preserved c =
    let x = c.args.xl.now in
    let y = c.args.yl.now in
    let i = c.loop-i.i in
    let d : get_or x (i - 1) 0 ≡ get_or y (i - 1) 0 = omega (arith, c.fetch-a.ensures, c.fetch-b.ensures, c.if-a-b.false) in
    (search rules, alike_next x y c.requires i c.loop-i-test.true c.loop-i.invariant.0 c.loop-i.invariant.1 d)

pub returns : goal.returns
unfolding case_of
returns c =
    ap case_of (sym (aligned_eq c.args.xl.now c.args.yl.now (length c.args.xl.now - c.loop-i.i) (omega (arith, c.loop-i-test.false)) (omega (arith, c.loop-i-test.false, c.requires)) (omega arith) c.loop-i.invariant.1))
