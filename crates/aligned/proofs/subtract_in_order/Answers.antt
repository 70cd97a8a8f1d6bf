-- `aligned::subtract_in_order` is right in each order. Assumes nothing.
use Rattle.aligned.proofs.AsFound.{chosen_now, reducible_named, subtracted_named}
use Rattle.aligned.proofs.subtract_in_order.Goals as goal

pub subtract_below-requires : goal.subtract_below-requires
subtract_below-requires c = reducible_named (chosen_now c.args.swapped c.args.a c.args.b c.either-first.ensures) (chosen_now c.args.swapped c.args.b c.args.a c.either-second.ensures) c.requires

pub returns : goal.returns
returns c = subtracted_named (chosen_now c.args.swapped c.args.a c.args.b c.either-first.ensures) (chosen_now c.args.swapped c.args.b c.args.a c.either-second.ensures) c.subtract_below.ensures
