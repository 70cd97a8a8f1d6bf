-- `aligned::few::difference` is right since two limbs of each tell which is the larger. Assumes nothing.
use Rattle.aligned.proofs.ByValue.{in_order, absolute_difference}
use borrow.Author.Rules.{rules}
use Rattle.aligned.proofs.few.difference.Goals as goal

pub difference-d-requires : goal.difference-d-requires
difference-d-requires c =
    let x = c.at_top-x in
    let y = c.at_top-y in
    in_order x.result y.result c.either.result c.either-2.result c.is_second_larger-swapped.result (search rules) (search rules) c.is_second_larger-swapped.ensures c.either.ensures c.either-2.ensures

pub returns : goal.returns
returns c =
    let x = c.at_top-x in
    let y = c.at_top-y in
    let l = c.is_second_larger-swapped in
    absolute_difference x.result y.result c.either.result c.either-2.result l.result (search rules) (search rules) l.ensures c.either.ensures c.either-2.ensures c.args.a.now c.args.b.now c.requires.1 x.ensures y.ensures c.difference-d.result.high c.difference-d.result.low c.difference-d.ensures.1
