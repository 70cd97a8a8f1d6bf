-- `ways::round_filled` is right since what fills the target is rounded once. Assumes nothing.
use mathlib.Core.Path.{◌∙◌}
use Rattle.descent.proofs.GoingDown.{room_kept}
use Rattle.wide.proofs.InOrder.{few, depth_told}
use Rattle.ways.proofs.Chosen.{counts_back}
use Rattle.ways.proofs.round_filled.Goals as goal

pub round-placed-requires : goal.round-placed-requires
round-placed-requires c = (room_kept _ _ _ c.fill.auto.target c.requires, c.in_ok-filled.ensures.1)

pub used-upper-requires : goal.used-upper-requires
used-upper-requires c = few c.in_ok-filled.ensures.1.0

pub used-lower-requires : goal.used-lower-requires
used-lower-requires c = few c.in_ok-filled.ensures.1.0

pub returns : goal.returns
returns c = rw c.by_fields.ensures (
    let f = c.in_ok-filled.ensures.1 in
    let size = c.fill.auto.target in
    let r = c.round-placed.ensures in (
      r.0 ∙ size,
      λ z w h sign. depth_told c.args.p _ _ _ _ (room_kept _ _ _ size c.requires) _ _ h c.args.mode _ (f.2 _ _ h sign) _ sign (r.1 z w h sign)
          (counts_back c.args.order.now.swapped c.either.ensures c.either-2.ensures c.used-upper.ensures c.used-lower.ensures),
    ))
