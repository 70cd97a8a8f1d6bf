-- `twolimbs::normalize` is right in each case: a carry, none, and a column of zeros. Assumes nothing.
use native.Mathlib.Omega.{arith}
use Rattle.twolimbs.proofs.TwoLimbs.{brought_carry, brought_plain, brought_zeros, low_some}
use Rattle.twolimbs.proofs.normalize.Goals as goal

pub returns-then-carry : goal.returns-then-carry
returns-then-carry c = brought_carry c.args.carry c.args.high c.args.low c.args.top c.if-carry.true c.ranges.high.fits c.ranges.low.fits (c.requires.1 c.if-carry.true)

pub raise-requires : goal.raise-requires
raise-requires c =
    (low_some c.args.carry c.args.high c.args.low c.if-carry.false c.if-high-eq0.true c.requires.0, omega (arith, c.requires.2))

pub returns-then-high-eq0 : goal.returns-then-high-eq0
returns-then-high-eq0 c =
    brought_zeros c.args.carry c.args.high c.args.low c.args.top c.raise.result c.if-carry.false c.if-high-eq0.true (omega (arith, c.requires.2)) c.raise.ensures

pub returns : goal.returns
returns c =
    brought_plain c.args.carry c.args.high c.args.low c.args.top c.raise-2.result c.if-carry.false c.raise-2.ensures
