-- `regular::ordered`: the walk stops where the answer is fixed, and its end is reported with the limbs that its columns reach. Assumes nothing.
use mathlib.Core.Path.{◌≡◌}
use Rattle.std.proofs.Common.{rules}
use Rattle.numbers.specs.Limits.{counted}
use Rattle.checks.specs.Number.{operand_of}
use Rattle.general.proofs.RegularReport.{gap_some, ordered_begun, ordered_ending, ordered_few, ordered_ranged, ordered_reported}
use Rattle.general.proofs.regular.ordered.Goals as goal

pub overflow_sub-gap : goal.overflow_sub-gap
unfolding operand_of
overflow_sub-gap c =
    let x = c.args.x in
    let y = c.args.y in
    let first : c.counted_exponent-top.result ≡ counted x.number.exponent = search rules in
    let second : c.counted_exponent.result ≡ counted y.number.exponent = search rules in
    gap_some x.number x.limbs.now y.number y.limbs.now c.args.from _ _ y.regular c.requires.0 first second

pub walk_down-walked-requires : goal.walk_down-walked-requires
unfolding operand_of
walk_down-walked-requires c =
    let x = c.args.x in
    let y = c.args.y in
    let first : c.counted_exponent-top.result ≡ counted x.number.exponent = search rules in
    let second : c.counted_exponent.result ≡ counted y.number.exponent = search rules in
    (c.requires.1, ordered_begun c.args.mode x.number x.limbs.now y.number y.limbs.now c.args.from _ _ _ y.regular c.requires.0 c.way_of-way.ensures first second)

pub finish-placed-requires : goal.finish-placed-requires
unfolding operand_of
finish-placed-requires c =
    let x = c.args.x in
    let y = c.args.y in
    let first : c.counted_exponent-top.result ≡ counted x.number.exponent = search rules in
    let second : c.counted_exponent.result ≡ counted y.number.exponent = search rules in
    ordered_ending c.args.mode _ x.number x.limbs.now y.number y.limbs.now c.args.from _ _ _ c.walk_down-walked.result c.args.target.now _ y.regular c.requires.0 c.requires.1 c.way_of-way.ensures first second c.walk_down-walked.auto.target c.walk_down-walked.ensures

pub used-first-requires : goal.used-first-requires
unfolding operand_of
used-first-requires c =
    let x = c.args.x in
    let y = c.args.y in
    let first : c.counted_exponent-top.result ≡ counted x.number.exponent = search rules in
    let second : c.counted_exponent.result ≡ counted y.number.exponent = search rules in
    ordered_few c.args.mode _ x.number x.limbs.now y.number y.limbs.now c.args.from _ _ _ c.walk_down-walked.result c.args.target.now _ y.regular c.requires.0 c.requires.1 c.way_of-way.ensures first second c.walk_down-walked.auto.target c.walk_down-walked.ensures

pub used-second-requires : goal.used-second-requires
unfolding operand_of
used-second-requires c =
    let x = c.args.x in
    let y = c.args.y in
    let first : c.counted_exponent-top.result ≡ counted x.number.exponent = search rules in
    let second : c.counted_exponent.result ≡ counted y.number.exponent = search rules in
    ordered_few c.args.mode _ x.number x.limbs.now y.number y.limbs.now c.args.from _ _ _ c.walk_down-walked.result c.args.target.now _ y.regular c.requires.0 c.requires.1 c.way_of-way.ensures first second c.walk_down-walked.auto.target c.walk_down-walked.ensures

pub answered-requires : goal.answered-requires
unfolding operand_of
answered-requires c =
    let x = c.args.x in
    let y = c.args.y in
    let first : c.counted_exponent-top.result ≡ counted x.number.exponent = search rules in
    let second : c.counted_exponent.result ≡ counted y.number.exponent = search rules in
    ordered_ranged c.args.mode _ x.number x.limbs.now y.number y.limbs.now c.args.from _ _ _ c.walk_down-walked.result c.args.target.now _ y.regular c.requires.0 c.requires.1 c.way_of-way.ensures first second c.walk_down-walked.auto.target c.walk_down-walked.ensures c.finish-placed.ensures

pub returns : goal.returns
unfolding operand_of
returns c =
    let x = c.args.x in
    let y = c.args.y in
    let first : c.counted_exponent-top.result ≡ counted x.number.exponent = search rules in
    let second : c.counted_exponent.result ≡ counted y.number.exponent = search rules in
    ordered_reported c.args.mode _ x.number x.limbs.now y.number y.limbs.now c.args.from _ _ _ c.walk_down-walked.result c.args.target.now _ y.regular c.requires.0 c.requires.1 c.way_of-way.ensures first second c.walk_down-walked.auto.target c.walk_down-walked.ensures c.finish-placed.ensures c.used-first.ensures c.used-second.ensures c.answered.ensures
