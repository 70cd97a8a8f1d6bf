-- `regular::both`: the larger exponent goes first; of one exponent, like signs add and unlike signs are told apart. Assumes nothing.
use mathlib.Core.Path.{◌≡◌}
use Rattle.std.proofs.Common.{rules}
use Rattle.numbers.specs.Limits.{counted}
use Rattle.checks.specs.Number.{operand_of}
use Rattle.general.proofs.Exchanged.{zero_first}
use Rattle.general.proofs.RegularLevel.{both_first, both_second, both_like, both_unlike}
use Rattle.general.proofs.regular.both.Goals as goal

pub ordered-requires : goal.ordered-requires
unfolding operand_of
ordered-requires c =
    let x = c.args.x in
    let y = c.args.y in
    let first : c.counted_exponent-a.result ≡ counted x.number.exponent = search rules in
    let second : c.counted_exponent-b.result ≡ counted y.number.exponent = search rules in
    (both_first x.number x.limbs.now y.number y.limbs.now x.formed x.regular y.formed y.regular _ _ first second c.if-b-a.true, c.requires)

pub ordered-requires-then-a-b : goal.ordered-requires-then-a-b
unfolding operand_of
ordered-requires-then-a-b c =
    let x = c.args.x in
    let y = c.args.y in
    let first : c.counted_exponent-a.result ≡ counted x.number.exponent = search rules in
    let second : c.counted_exponent-b.result ≡ counted y.number.exponent = search rules in
    (both_second x.number x.limbs.now y.number y.limbs.now x.formed x.regular y.formed y.regular _ _ first second c.if-a-b.true, c.requires)

pub returns-then-a-b : goal.returns-then-a-b
unfolding operand_of
returns-then-a-b c = zero_first c.args.mode _ _ _ _ _ _ _ c.requires c.args.y.regular c.exchanged.ensures c.ordered-then-a-b.ensures

pub ordered-requires-then-x-y : goal.ordered-requires-then-x-y
unfolding operand_of
ordered-requires-then-x-y c =
    let x = c.args.x in
    let y = c.args.y in
    let first : c.counted_exponent-a.result ≡ counted x.number.exponent = search rules in
    let second : c.counted_exponent-b.result ≡ counted y.number.exponent = search rules in
    (both_like x.number x.limbs.now y.number y.limbs.now x.formed x.regular y.formed y.regular _ _ first second c.if-b-a.false c.if-a-b.false c.if-x-y.true, c.requires)

pub unlike-requires : goal.unlike-requires
unfolding operand_of
unlike-requires c =
    let x = c.args.x in
    let y = c.args.y in
    let first : c.counted_exponent-a.result ≡ counted x.number.exponent = search rules in
    let second : c.counted_exponent-b.result ≡ counted y.number.exponent = search rules in
    (both_unlike x.number x.limbs.now y.number y.limbs.now x.formed x.regular y.formed y.regular _ _ first second c.if-b-a.false c.if-a-b.false c.if-x-y.false, c.requires)
