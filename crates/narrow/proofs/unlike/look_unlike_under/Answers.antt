-- `unlike::look_unlike`: the operands are of unlike signs, and the answer has that of the larger; they are taken in the order of their exponents. Assumes nothing.
use mathlib.Core.Path.{◌≡◌}
use Rattle.std.proofs.Common.{rules}
use Rattle.numbers.specs.Limits.{counted}
use Rattle.checks.specs.Number.{operand_of}
use Rattle.checks.specs.Held.{regular}
use Rattle.narrow.proofs.InOrder.{order_told_lem, unlike_told, unlike_larger}
use Rattle.narrow.proofs.unlike.look_unlike_under.Goals as goal

pub tops_of-tops-requires : goal.tops_of-tops-requires
tops_of-tops-requires c =
    let x = c.args.x in
    let y = c.args.y in
    let first : c.counted_exponent-a.result ≡ counted x.number.exponent = search rules in
    let second : c.counted_exponent-b.result ≡ counted y.number.exponent = search rules in
    let order = order_told_lem _ _ c.is_second_larger-swapped.ensures first second in
    (c.requires.0, c.requires.1, order.0, order.1, unlike_told _ _ c.requires.2)

pub returns : goal.returns
unfolding operand_of
returns c =
    let t = c.tops_of-tops.ensures in
    let told = c.in_ok-seen.ensures _ _ t.2 (unlike_larger _ (regular c.args.x) (regular c.args.y) c.requires.2) in
    let e = t.0 in
    rw e at (c.sight_of.ensures _ (regular c.args.x) (regular c.args.y) t.2 told)
