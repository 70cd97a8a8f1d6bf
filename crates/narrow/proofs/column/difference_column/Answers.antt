-- `narrow::column::difference_column`: all is read, or the rest lies inside a half. Assumes nothing.
use mathlib.Core.Path.{refl}
use native.Mathlib.Omega.{arith}
use Rattle.narrow.proofs.Settled.{sums_fit, difference_settles}
use Rattle.narrow.proofs.column.difference_column.Goals as goal

pub is_whole-requires : goal.is_whole-requires
is_whole-requires c = sums_fit _ _ _ c.args.tops.facing

pub has_more-requires : goal.has_more-requires
has_more-requires c = sums_fit _ _ _ c.args.tops.facing

pub returns : goal.returns
returns c =
    let t = c.args.tops in
    (refl, difference_settles t.precision t.pair t.first t.facing c.requires.0 c.requires.1 _ _ _ _ c.is_whole.ensures c.has_more.ensures (omega (arith, c.requires.2)) c.is_inside.ensures c.if-not-is_whole-is_inside.false)
