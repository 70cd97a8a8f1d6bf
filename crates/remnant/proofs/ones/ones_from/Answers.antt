-- `remnant::ones::ones_from` is right since a limb of all ones takes 64 ones off, and the top limb has what is left. Assumes nothing.
use mathlib.Core.Path.{◌∙◌}
use native.Mathlib.Omega.{arith}
use Rattle.remnant.proofs.Leading.{ones_begin, part_passes, part_stops, part_ends}
use Rattle.remnant.proofs.ones.ones_from.Goals as goal

pub loop-limb-init : goal.loop-limb-init
loop-limb-init c = ones_begin c.args.target.now c.args.from c.args.count

pub returns-then-limb : goal.returns-then-limb
returns-then-limb c =
    let l = c.loop-limb in
    part_stops c.args.target.now (λ i. (c.type_inv.target i).fits) c.args.from c.args.count l.limb-index c.loop-limb-test.true c.if-limb.true ∙ l.invariant

pub loop-limb-preserved : goal.loop-limb-preserved
loop-limb-preserved c =
    let l = c.loop-limb in
    part_passes c.args.target.now (λ i. (c.type_inv.target i).fits) c.args.from c.args.count l.limb-index c.loop-limb-test.true c.if-limb.false ∙ l.invariant

pub returns : goal.returns
returns c =
    let l = c.loop-limb in
    c.limb_ones.ensures ∙ part_ends c.args.target.now c.args.from c.args.count l.limb-index c.limb_at.result c.requires.1 c.requires.2 (omega arith) c.limb_at.ensures ∙ l.invariant
