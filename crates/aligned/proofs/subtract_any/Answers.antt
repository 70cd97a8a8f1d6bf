-- `aligned::subtract_any` is right since each way is. Assumes nothing.
use lib.ListN.{length}
use Rattle.descent.proofs.GoingDown.{room_some}
use Rattle.aligned.proofs.FewFound.{few_tested}
use Rattle.aligned.proofs.subtract_any.Goals as goal

pub subtract-requires : goal.subtract-requires
subtract-requires c =
    let few = few_tested (length c.args.target.now) c.args.x.number.precision c.args.y.number.precision c.args.p c.are_few.ensures c.if-are_few.true in
    ((room_some _ _ c.requires.0, few.0), c.requires.1, c.requires.2, c.requires.3)

pub returns-then-are_few : goal.returns-then-are_few
returns-then-are_few c =
    let few = few_tested (length c.args.target.now) c.args.x.number.precision c.args.y.number.precision c.args.p c.are_few.ensures c.if-are_few.true in
    let r = c.subtract in
    (r.ensures.0, r.ensures.1 c.args.p c.requires.0 few.1 few.2)
