-- `reading::read_on` is right since the columns passed over stand below the first as zeros or ones, and the next is added below them or taken off. Assumes nothing.
use mathlib.Core.Path.{refl}
use Prim.Native.Nat.{◌+◌}
use Rattle.wide.proofs.Offering.{offered}
use Rattle.wide.proofs.FullTarget.{offered_second}
use Rattle.deep.proofs.ReadingOn.{read_on, next_few, columns_modest, columns_fit}
use Rattle.deep.proofs.reading.read_on.Goals as goal

pub overflow_add-columns : goal.overflow_add-columns
overflow_add-columns c =
    let on = c.pass_over-on in
    record { fits = columns_fit c.args.order.now.pair c.args.order.now.first.now c.args.order.now.second.now (offered c.args.order.now) c.args.stop c.requires (on.result + 1) (next_few c.args.order.now.pair c.args.stop c.requires on.result on.ensures.0) }

pub is_fixed-requires : goal.is_fixed-requires
is_fixed-requires c =
    let on = c.pass_over-on in
    (columns_modest c.args.order.now.pair c.args.order.now.first.now c.args.order.now.second.now (offered c.args.order.now) c.args.stop c.requires (on.result + 1) (next_few c.args.order.now.pair c.args.stop c.requires on.result on.ensures.0), offered_second c.args.p c.args.order.now.pair c.args.order.now.first.now c.args.order.now.second.now (offered c.args.order.now))

pub returns : goal.returns
returns c =
    let on = c.pass_over-on in
    λ x y h is.
    read_on x y c.args.order.now.pair c.args.order.now.first.now c.args.order.now.second.now h c.args.begun is _ refl _ c.args.p c.args.stop c.requires _ _ c.step-next.result c.step-next.ensures
    on.result on.ensures.0 on.ensures.1 c.kept_tail.ensures c.column-a.ensures c.column-b.ensures c.is_fixed.result c.is_fixed.ensures.0 c.is_fixed.ensures.1
