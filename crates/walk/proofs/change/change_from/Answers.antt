-- `walk::change_from` is right since at each step the part with a one still due at limb i, or lent there, is the part as it came, changed by one. Assumes nothing.
use mathlib.Core.Path.{refl, ◌∙◌}
use Prim.Native.Nat.{◌^◌}
use native.Mathlib.Omega.{arith}
use lib.ListN.{length-set}
use borrow.Author.Tests.{not-true, not-false}
use Rattle.parts.proofs.Parts.{part_is}
use Rattle.walk.proofs.Moving.{change_due, limb_after, part_holds, part_passes}
use Rattle.walk.proofs.change.change_from.Goals as goal

pub loop-t-init : goal.loop-t-init
loop-t-init c = (refl, change_due c.args.change _ _)

pub loop-t-preserved : goal.loop-t-preserved
loop-t-preserved c =
    let l = c.loop-t in
    let r = c.change_limb-next in (
      length-set l.t-items l.t-index r.result.limb ∙ l.invariant.0,
      limb_after c.args.change (2 ^ 64) l.t-items l.t-index _ r.result.limb r.result.carry (omega arith) (not-false _ c.if-not-next.false) l.invariant.1 r.ensures,
    )

pub returns-then-not-next : goal.returns-then-not-next
returns-then-not-next c =
    let l = c.loop-t in
    let g = c.args in
    let r = c.change_limb-next in
    let i = rw (part_is g.target.now g.from) at l.invariant in
    part_holds g.change g.from g.target.now l.t-items l.t-index r.result.limb c.requires (omega arith) i.0 i.1 (rw (not-true _ c.if-not-next.true) at r.ensures)

pub returns : goal.returns
returns c =
    let l = c.loop-t in
    let g = c.args in
    let i = rw (part_is g.target.now g.from) at l.invariant in
    part_passes g.change g.from g.target.now l.t-items l.t-index c.requires (omega arith) (omega arith) i.0 i.1
