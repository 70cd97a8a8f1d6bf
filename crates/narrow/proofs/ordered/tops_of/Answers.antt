-- `ordered::tops_of`: the operands are taken in the order of their exponents; the last limb of each is its top limb. Assumes nothing.
use mathlib.Core.Path.{◌≡◌, refl}
use Rattle.std.proofs.Common.{rules}
use Rattle.numbers.specs.Limits.{counted}
use Rattle.checks.specs.Number.{operand_of}
use Rattle.narrow.specs.Sighting.{top_limb}
use Rattle.narrow.proofs.InOrder.{facing, held}
use Rattle.narrow.proofs.ordered.tops_of.Goals as goal

pub invariant_of-result : goal.invariant_of-result
unfolding top_limb operand_of
invariant_of-result c =
    let x = c.args.x in
    let y = c.args.y in
    let r = c.requires in
    let first : c.counted_exponent-a.result ≡ counted x.number.exponent = search rules in
    let second : c.counted_exponent-b.result ≡ counted y.number.exponent = search rules in
    record { facing = facing _ r.0 r.1 x.number x.limbs.now y.number y.limbs.now x.formed x.regular y.formed y.regular _ r.2 r.3 _ _ _ _ first second c.either-top.ensures c.either.ensures _ _ refl refl _ _ _ _ _ r.4 c.either-2.ensures c.either-3.ensures c.either-4.ensures c.either-5.ensures }

pub returns : goal.returns
unfolding top_limb operand_of
returns c =
    let x = c.args.x in
    let y = c.args.y in
    let r = c.requires in
    let first : c.counted_exponent-a.result ≡ counted x.number.exponent = search rules in
    let second : c.counted_exponent-b.result ≡ counted y.number.exponent = search rules in
    (refl, refl, held _ r.0 r.1 x.number x.limbs.now y.number y.limbs.now x.formed x.regular y.formed y.regular _ r.2 r.3 _ _ _ _ first second c.either-top.ensures c.either.ensures _ _ refl refl _ _ _ _ _ r.4 c.either-2.ensures c.either-3.ensures c.either-4.ensures c.either-5.ensures)
