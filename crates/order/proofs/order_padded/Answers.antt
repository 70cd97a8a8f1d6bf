-- `order::order_padded`: the limbs passed are equal, the first difference decides, and past both ends nothing is left. Assumes nothing.
use mathlib.Core.Path.{◌≡◌, sym, ap}
use Prim.Native.Nat.{◌+◌, ◌<◌}
use native.Mathlib.Omega.{arith}
use lib.ListN.{length}
use Rattle.order.specs.Order.{case_of}
use Rattle.order.specs.Steps.{from_top}
use Rattle.order.proofs.Head.{head_none, head_next, aligned_lt, aligned_gt, aligned_eq}
use borrow.Author.Rules.{rules}
use Rattle.order.proofs.order_padded.Goals as goal

pub loop-i-init : goal.loop-i-init
loop-i-init c = (search rules, head_none _ _)

pub returns-then-a-b : goal.returns-then-a-b
unfolding case_of
returns-then-a-b c =
    let within : c.loop-i.i < length c.args.xl.now + length c.args.yl.now = omega (arith, c.max-i-end.ensures) in
    let l = c.loop-i in
    let d : from_top c.args.xl.now l.i < from_top c.args.yl.now l.i = omega (arith, c.from_top-a.ensures, c.from_top-b.ensures) in
    ap case_of (sym (aligned_lt c.args.xl.now c.args.yl.now l.i within (λ i. (c.type_inv.xl i).fits) l.invariant.1 d))

pub returns-then-b-a : goal.returns-then-b-a
unfolding case_of
returns-then-b-a c =
    let within : c.loop-i.i < length c.args.xl.now + length c.args.yl.now = omega (arith, c.max-i-end.ensures) in
    let l = c.loop-i in
    let d : from_top c.args.yl.now l.i < from_top c.args.xl.now l.i = omega (arith, c.from_top-a.ensures, c.from_top-b.ensures) in
    ap case_of (sym (aligned_gt c.args.xl.now c.args.yl.now l.i within (λ i. (c.type_inv.yl i).fits) l.invariant.1 d))

pub loop-i-preserved : goal.loop-i-preserved
loop-i-preserved c =
    let l = c.loop-i in
    let d : from_top c.args.xl.now l.i ≡ from_top c.args.yl.now l.i = omega (arith, c.from_top-a.ensures, c.from_top-b.ensures) in
    (search rules, head_next c.args.xl.now c.args.yl.now l.i l.invariant.1 d)

pub returns : goal.returns
unfolding case_of
returns c =
    let l = c.loop-i in
    let m = c.max-i-end.ensures in
    ap case_of (sym (aligned_eq c.args.xl.now c.args.yl.now l.i (omega arith) (omega arith) (omega arith) l.invariant.1))
