-- `place::one::normalize` is right since a limb that is not 0 has a first digit, the zeros above it tell how far it goes up, and a carry
-- is a first digit one above the limb. Assumes nothing.
use native.Mathlib.Omega.{arith}
use lib.Count.{count_leading_zeros}
use Rattle.numbers.specs.Limits.{most_exponent, bias}
use Rattle.place.proofs.Normalized.{ToTop, brought_top, some_zeros, lowered, stays, raised}
use borrow.Author.Rules.{rules}
use Rattle.place.proofs.one.normalize.Goals as goal

pub overflow_add-higher : goal.overflow_add-higher
unfolding most_exponent bias
overflow_add-higher c = search rules

pub returns-then-carry : goal.returns-then-carry
returns-then-carry c =
    let g = c.args in
    lowered g.carry g.limb g.guard g.more g.unit c.ranges.limb.fits c.ranges.guard.fits c.if-carry.true

pub returns-then-limb-ge-FIRST_DIGIT : goal.returns-then-limb-ge-FIRST_DIGIT
returns-then-limb-ge-FIRST_DIGIT c =
    let g = c.args in
    stays g.carry g.limb g.guard g.more g.unit c.ranges.limb.fits c.ranges.guard.fits c.if-carry.false c.if-limb-ge-FIRST_DIGIT.true

pub overflow_cast-zeros : goal.overflow_cast-zeros
overflow_cast-zeros c =
    let top : ToTop c.args.limb (count_leading_zeros 64 c.args.limb) = brought_top c.args.limb (c.requires.0 c.if-carry.false) c.ranges.limb.fits in
    record { fits = omega (arith, top.few) }

pub overflow_shl-moved : goal.overflow_shl-moved
overflow_shl-moved c =
    let top : ToTop c.args.limb (count_leading_zeros 64 c.args.limb) = brought_top c.args.limb (c.requires.0 c.if-carry.false) c.ranges.limb.fits in
    top.few

pub overflow_sub-entering : goal.overflow_sub-entering
overflow_sub-entering c =
    let top : ToTop c.args.limb (count_leading_zeros 64 c.args.limb) = brought_top c.args.limb (c.requires.0 c.if-carry.false) c.ranges.limb.fits in
    omega (arith, top.few)

pub overflow_shr-entering : goal.overflow_shr-entering
overflow_shr-entering c =
    let top : ToTop c.args.limb (count_leading_zeros 64 c.args.limb) = brought_top c.args.limb (c.requires.0 c.if-carry.false) c.ranges.limb.fits in
    let some = some_zeros _ _ c.if-limb-ge-FIRST_DIGIT.false top in omega arith

pub overflow_shl-left : goal.overflow_shl-left
overflow_shl-left c =
    let top : ToTop c.args.limb (count_leading_zeros 64 c.args.limb) = brought_top c.args.limb (c.requires.0 c.if-carry.false) c.ranges.limb.fits in
    top.few

pub overflow_sub-lower : goal.overflow_sub-lower
overflow_sub-lower c =
    let top : ToTop c.args.limb (count_leading_zeros 64 c.args.limb) = brought_top c.args.limb (c.requires.0 c.if-carry.false) c.ranges.limb.fits in
    omega (arith, top.few, c.requires.1)

pub returns : goal.returns
returns c =
    let top : ToTop c.args.limb (count_leading_zeros 64 c.args.limb) = brought_top c.args.limb (c.requires.0 c.if-carry.false) c.ranges.limb.fits in
    let g = c.args in
    raised g.carry g.limb g.guard g.more g.unit c.ranges.limb.fits c.ranges.guard.fits (count_leading_zeros 64 g.limb) top (some_zeros _ _ c.if-limb-ge-FIRST_DIGIT.false top)
    (omega (arith, top.few, c.requires.1)) c.if-carry.false
