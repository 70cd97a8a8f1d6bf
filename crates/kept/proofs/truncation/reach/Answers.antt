-- `kept::truncation::reach` is right since a carry is the first digit, one above the target, and without it the first digit stands in
-- the top limb, as far down as that has zeros. Assumes nothing.
use Rattle.kept.proofs.Reaching.{reach_carried, reach_plain}
use Rattle.kept.proofs.truncation.reach.Goals as goal

pub returns-then-carry : goal.returns-then-carry
returns-then-carry c =
    reach_carried c.args.carry c.args.target.now (λ i. (c.type_inv.target i).fits) c.if-carry.true

pub zeros_above-requires : goal.zeros_above-requires
zeros_above-requires c = c.requires.1 c.if-carry.false

pub returns : goal.returns
returns c =
    let z = c.zeros_above.ensures in
    reach_plain c.args.carry c.args.target.now c.zeros_above.result (λ i. (c.type_inv.target i).fits) c.requires.0 z.0
    c.if-carry.false z.1 z.2
