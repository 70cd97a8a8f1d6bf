-- `like::look_like`: the operands are of one sign, which is the answer's; they are taken in the order of their exponents. Assumes nothing.
use Rattle.checks.specs.Number.{operand_of}
use Rattle.checks.specs.Held.{regular}
use Rattle.narrow.proofs.InOrder.{like_larger}
use Rattle.narrow.proofs.like.look_like_under.Goals as goal

pub returns : goal.returns
unfolding operand_of
returns c =
    let t = c.tops_of-tops.ensures in
    let told = c.in_ok-seen.ensures _ _ t.2 (like_larger _ (regular c.args.x) (regular c.args.y) c.requires.2) in
    let e = t.0 in
    rw e at (c.sight_of.ensures _ (regular c.args.x) (regular c.args.y) t.2 told)
