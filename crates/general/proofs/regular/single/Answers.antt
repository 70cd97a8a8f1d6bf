-- `regular::single`: no column of a zero is read, whichever zero it is, so the walk is one and its end is reported. Assumes nothing.
use mathlib.Core.Path.{◌≡◌}
use Rattle.std.proofs.Common.{rules}
use Rattle.numbers.specs.Limits.{counted}
use Rattle.checks.specs.Number.{operand_of}
use Rattle.general.proofs.RegularReport.{single_begun, single_ending, single_few, single_ranged, single_reported}
use Rattle.general.proofs.regular.single.Goals as goal

pub walk_down-walked-requires : goal.walk_down-walked-requires
unfolding operand_of
walk_down-walked-requires c =
    let x = c.args.x in
    let back : c.counted_exponent.result ≡ counted x.number.exponent = search rules in
    (c.requires, single_begun c.args.mode x.number x.limbs.now _ _ x.formed x.regular c.way_of-way.ensures back)

pub finish-placed-requires : goal.finish-placed-requires
unfolding operand_of
finish-placed-requires c =
    let x = c.args.x in
    let back : c.counted_exponent.result ≡ counted x.number.exponent = search rules in
    single_ending c.args.mode _ x.number x.limbs.now _ _ c.walk_down-walked.result c.args.target.now _ x.formed x.regular c.requires c.way_of-way.ensures back c.walk_down-walked.auto.target c.walk_down-walked.ensures

pub used-first-requires : goal.used-first-requires
unfolding operand_of
used-first-requires c =
    let x = c.args.x in
    let back : c.counted_exponent.result ≡ counted x.number.exponent = search rules in
    single_few c.args.mode _ x.number x.limbs.now _ _ c.walk_down-walked.result c.args.target.now _ x.formed x.regular c.requires c.way_of-way.ensures back c.walk_down-walked.auto.target c.walk_down-walked.ensures

pub answered-requires : goal.answered-requires
unfolding operand_of
answered-requires c =
    let x = c.args.x in
    let back : c.counted_exponent.result ≡ counted x.number.exponent = search rules in
    single_ranged c.args.mode _ x.number x.limbs.now _ _ c.walk_down-walked.result c.args.target.now _ x.formed x.regular c.requires c.way_of-way.ensures back c.walk_down-walked.auto.target c.walk_down-walked.ensures c.finish-placed.ensures

pub returns : goal.returns
unfolding operand_of
returns c =
    let x = c.args.x in
    let back : c.counted_exponent.result ≡ counted x.number.exponent = search rules in
    single_reported c.args.mode _ x.number x.limbs.now _ _ c.walk_down-walked.result c.args.target.now _ x.formed x.regular c.requires c.way_of-way.ensures back c.walk_down-walked.auto.target c.walk_down-walked.ensures c.finish-placed.ensures c.used-first.ensures c.answered.ensures
