-- `far::round_kept` is right since the first operand's limbs are copied, and a little more or a little less than they is rounded. Assumes nothing.
use Rattle.far.proofs.KeptFirst.{stored, below_most, more_answered, less_answered}
use Rattle.far.proofs.round_kept.Goals as goal

pub copy-requires : goal.copy-requires
copy-requires c = c.requires.0.long

pub round_above-requires : goal.round_above-requires
round_above-requires c =
    (stored c.args.p _ c.args.order.now.first.now c.args.target.now c.requires.0 c.copy.ensures c.requires.1, below_most c.args.p _ c.args.order.now.first.now c.args.target.now c.requires.0 c.if-pair.true)

pub returns-then-pair : goal.returns-then-pair
returns-then-pair c =
    more_answered c.args.p _ c.args.order.now.first.now c.args.target.now c.requires.0 c.if-pair.true c.args.mode c.args.order.now.negative c.copy.ensures (c.round_above.ensures.value, c.round_above.ensures.target_after)

pub returns : goal.returns
returns c =
    let kept = stored c.args.p _ c.args.order.now.first.now c.args.target.now c.requires.0 c.copy.ensures c.requires.1 in
    less_answered c.args.p _ c.args.order.now.first.now c.args.target.now c.requires.0 c.if-pair.false c.args.mode c.args.order.now.negative c.copy.ensures
    (c.round_below.ensures c.args.mode c.args.p _ kept (c.requires.2 c.if-pair.false))
