-- `ways::add_regular` is right since exponents and top limbs tell which operand comes first, and the two may change places; where they do not tell, two limbs each are subtracted in the lower ones. Assumes nothing.
use mathlib.Core.Path.{◌≡◌, refl}
use mathlib.Core.Bool.{true≢false}
use native.Mathlib.Omega.{arith}
use borrow.Author.Rules.{rules}
use Rattle.numbers.specs.Limits.{counted}
use Rattle.checks.specs.Number.{operand_of}
use Rattle.descent.proofs.Handed.{handed_some}
use Rattle.wide.proofs.InOrder.{gap_some, holding, held_in, sign_told, attempts_told}
use Rattle.aligned.proofs.AsFound.{chosen_now, sign_is, regular_told}
use Rattle.ways.proofs.Chosen.{lower_held, lower_offered, holding_named}
use Rattle.ways.proofs.add_regular.Goals as goal

pub overflow_sub-u : goal.overflow_sub-u
overflow_sub-u c = omega (arith, handed_some c.args.x.number c.args.x.limbs.now c.args.x.formed)

pub bounds-x-x : goal.bounds-x-x
bounds-x-x c = omega (arith, handed_some c.args.x.number c.args.x.limbs.now c.args.x.formed)

pub overflow_sub-v : goal.overflow_sub-v
overflow_sub-v c = omega (arith, handed_some c.args.y.number c.args.y.limbs.now c.args.y.formed)

pub bounds-y-y : goal.bounds-y-y
bounds-y-y c = omega (arith, handed_some c.args.y.number c.args.y.limbs.now c.args.y.formed)

pub bounds-x-0 : goal.bounds-x-0
bounds-x-0 c = omega (arith, (c.is_lower.ensures c.if-is_lower.true).0)

pub bounds-y-0 : goal.bounds-y-0
bounds-y-0 c = omega (arith, (c.is_lower.ensures c.if-is_lower.true).1)

pub subtract_lower-requires : goal.subtract_lower-requires
subtract_lower-requires c =
    let g = c.args in
    let first : c.counted_exponent-a.result ≡ counted c.args.x.number.exponent = search rules in
    let second : c.counted_exponent-b.result ≡ counted c.args.y.number.exponent = search rules in
    let even = c.is_level in
    let limbs = c.is_lower.ensures c.if-is_lower.true in
    (c.requires, limbs.2, lower_offered g.x.number g.x.limbs.now g.y.number g.y.limbs.now c.args.x.formed (regular_told c.args.x) c.args.y.formed (regular_told c.args.y) _ _ first second even.result even.ensures c.if-is_level.true limbs.0 limbs.1)

pub returns-then-is_lower : goal.returns-then-is_lower
returns-then-is_lower c =
    let g = c.args in
    let first : c.counted_exponent-a.result ≡ counted c.args.x.number.exponent = search rules in
    let second : c.counted_exponent-b.result ≡ counted c.args.y.number.exponent = search rules in
    let even = c.is_level in
    let limbs = c.is_lower.ensures c.if-is_lower.true in
    let r = c.subtract_lower in
    (r.ensures.0, r.ensures.1 _ _ (lower_held g.x.number g.x.limbs.now g.y.number g.y.limbs.now c.args.x.formed (regular_told c.args.x) c.args.y.formed (regular_told c.args.y) _ _ first second even.result even.ensures c.if-is_level.true limbs.0 limbs.1) (sign_is g.x.number g.x.limbs.now))

pub overflow_sub-pair : goal.overflow_sub-pair
overflow_sub-pair c =
    let first : c.counted_exponent-a.result ≡ counted c.args.x.number.exponent = search rules in
    let second : c.counted_exponent-b.result ≡ counted c.args.y.number.exponent = search rules in
    gap_some c.args.x.number c.args.x.limbs.now c.args.y.number c.args.y.limbs.now c.args.x.formed (regular_told c.args.x) c.args.y.formed (regular_told c.args.y) _ _ _ _ first second refl refl c.is_second_larger-swapped.result c.is_second_larger-swapped.ensures c.is_level.result c.is_level.ensures c.if-is_level.false _ _ _ _ c.either-top.ensures c.either-3.ensures c.either.ensures c.either-2.ensures

pub invariant_of-read_in_order : goal.invariant_of-read_in_order
invariant_of-read_in_order c =
    let first : c.counted_exponent-a.result ≡ counted c.args.x.number.exponent = search rules in
    let second : c.counted_exponent-b.result ≡ counted c.args.y.number.exponent = search rules in
    record {
      held = held_in c.args.x.number c.args.x.limbs.now c.args.y.number c.args.y.limbs.now c.args.x.formed (regular_told c.args.x) c.args.y.formed (regular_told c.args.y) _ _ _ _ first second refl refl c.is_second_larger-swapped.result c.is_second_larger-swapped.ensures c.is_level.result c.is_level.ensures c.if-is_level.false _ _ _ _ c.either-top.ensures c.either-3.ensures c.either.ensures c.either-2.ensures
          _ _ _ c.either-4.ensures (chosen_now c.is_second_larger-swapped.result c.args.x.limbs c.args.y.limbs c.either-5.ensures) (chosen_now c.is_second_larger-swapped.result c.args.y.limbs c.args.x.limbs c.either-6.ensures);
    }

pub read_in_order-requires : goal.read_in_order-requires
read_in_order-requires c = c.requires

pub returns : goal.returns
returns c =
    let first : c.counted_exponent-a.result ≡ counted c.args.x.number.exponent = search rules in
    let second : c.counted_exponent-b.result ≡ counted c.args.y.number.exponent = search rules in
    let x = operand_of c.args.x.number c.args.x.limbs.now in
    let y = operand_of c.args.y.number c.args.y.limbs.now in
    (c.read_in_order.auto.target, attempts_told c.args.mode c.args.p _ c.requires x y (regular_told c.args.x) (regular_told c.args.y) _ _ c.is_second_larger-swapped.result _ _ _ (holding_named (chosen_now c.is_second_larger-swapped.result c.args.x.limbs c.args.y.limbs c.either-5.ensures) (chosen_now c.is_second_larger-swapped.result c.args.y.limbs c.args.x.limbs c.either-6.ensures) (holding c.args.x.number c.args.x.limbs.now c.args.y.number c.args.y.limbs.now c.args.x.formed (regular_told c.args.x) c.args.y.formed (regular_told c.args.y) _ _ _ _ first second refl refl c.is_second_larger-swapped.result c.is_second_larger-swapped.ensures c.is_level.result c.is_level.ensures c.if-is_level.false _ _ _ _ c.either-top.ensures c.either-3.ensures c.either.ensures c.either-2.ensures)) (sign_told c.args.x.number c.args.x.limbs.now c.args.y.number c.args.y.limbs.now c.args.x.formed (regular_told c.args.x) c.args.y.formed (regular_told c.args.y) _ _ _ _ first second refl refl c.is_second_larger-swapped.result c.is_second_larger-swapped.ensures c.is_level.result c.is_level.ensures c.if-is_level.false _ c.either-4.ensures) _ c.read_in_order.ensures.1)
