-- `twolimbs::raise` is right since the zeros above its first digit bring it to the top. Assumes nothing.
use native.Mathlib.Omega.{arith}
use lib.Count.{count_leading_zeros}
use Rattle.place.proofs.Normalized.{ToTop}
use Rattle.twolimbs.proofs.TwoLimbs.{to_top, brought_up}
use Rattle.twolimbs.proofs.raise.Goals as goal

pub overflow_cast-zeros : goal.overflow_cast-zeros
overflow_cast-zeros c =
    let top : ToTop c.args.high (count_leading_zeros 64 c.args.high) = to_top c.args.high c.args.low c.args.top c.requires.0 c.ranges.high.fits c.ranges.low.fits c.requires.1 in
    record { fits = omega (arith, top.few) }

pub overflow_sub-entering : goal.overflow_sub-entering
overflow_sub-entering c =
    let top : ToTop c.args.high (count_leading_zeros 64 c.args.high) = to_top c.args.high c.args.low c.args.top c.requires.0 c.ranges.high.fits c.ranges.low.fits c.requires.1 in
    omega (arith, top.few)

pub overflow_shl-moved : goal.overflow_shl-moved
overflow_shl-moved c =
    let top : ToTop c.args.high (count_leading_zeros 64 c.args.high) = to_top c.args.high c.args.low c.args.top c.requires.0 c.ranges.high.fits c.ranges.low.fits c.requires.1 in
    top.few

pub overflow_shl-left : goal.overflow_shl-left
overflow_shl-left c =
    let top : ToTop c.args.high (count_leading_zeros 64 c.args.high) = to_top c.args.high c.args.low c.args.top c.requires.0 c.ranges.high.fits c.ranges.low.fits c.requires.1 in
    top.few

pub overflow_sub-result : goal.overflow_sub-result
overflow_sub-result c =
    let top : ToTop c.args.high (count_leading_zeros 64 c.args.high) = to_top c.args.high c.args.low c.args.top c.requires.0 c.ranges.high.fits c.ranges.low.fits c.requires.1 in
    omega (arith, top.few, c.requires.1)

pub returns : goal.returns
returns c = brought_up c.args.high c.args.low c.args.top c.requires.0 c.ranges.high.fits c.ranges.low.fits c.requires.1
