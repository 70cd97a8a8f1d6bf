-- `short::attempt_under` is right since a run of one limb is that limb. Assumes nothing.
use Rattle.wide.proofs.Offering.{offered}
use Rattle.wide.proofs.InOrder.{attempts_held}
use Rattle.short.proofs.Held.{held_limbs, offered_limbs}
use Rattle.short.proofs.attempt_under.Goals as goal

pub add_in_order-requires : goal.add_in_order-requires
add_in_order-requires c =
    let o = c.args.order.now in
    (c.requires.0, c.requires.3, offered_limbs o.first.now o.second.now c.requires.1 c.requires.2 (offered o))

pub returns : goal.returns
returns c =
    let o = c.args.order.now in
    (c.add_in_order.auto.target, attempts_held _ _ _ _ _ _ _ o.first.now o.second.now _ (λ x y h. held_limbs o.first.now o.second.now c.requires.1 c.requires.2 h) _ c.add_in_order.ensures.1)
