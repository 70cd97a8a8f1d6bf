-- `ways::fill` is right since either way is: what the first leaves open, in a target as long, the other fills. Assumes nothing.
use mathlib.Core.Path.{◌∙◌}
use Rattle.descent.proofs.GoingDown.{room_kept}
use Rattle.wide.proofs.Offering.{offered}
use Rattle.wide.proofs.InOrder.{fills_by}
use Rattle.ways.proofs.Chosen.{deep_asked}
use Rattle.ways.proofs.fill.Goals as goal

pub is_deep-requires : goal.is_deep-requires
is_deep-requires c = deep_asked c.args.p _ _ _ _ c.requires (offered c.args.order.now)

pub fill-requires : goal.fill-requires
fill-requires c =
    let t = c.is_deep.ensures c.if-is_deep.true in
    (c.requires, t.0, t.1)

pub fill-requires-2 : goal.fill-requires-2
fill-requires-2 c = room_kept _ _ _ c.if-is_deep.auto.target c.requires

pub shape_of-target : goal.shape_of-target
shape_of-target c = c.fill-2.ensures.0 ∙ c.if-is_deep.auto.target

pub returns : goal.returns
returns c =
    let f = c.fill-2 in
    (f.ensures.0 ∙ c.if-is_deep.auto.target, fills_by c.args.mode c.args.order.now.negative c.args.p _ _ _ _ _ f.ensures.1 (offered c.args.order.now))
