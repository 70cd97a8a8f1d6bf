-- `aligned::subtract` is right since the difference of the limbs below those that are alike is all that there is, and the two may change places. Assumes nothing.
use mathlib.Core.Path.{◌≡◌, sym, ◌∙◌}
use mathlib.Core.Bool.{Bool, false, not, cond, beq}
use mathlib.Core.List.{List}
use Prim.Native.Nat.{ℕ, ◌-◌, ◌*◌, ◌%◌, ◌^◌, ◌≤◌}
use native.Mathlib.Omega.{arith}
use lib.ListN.{length}
use borrow.Author.Tests.{leb-true}
use Rattle.limb.specs.Value.{value_of}
use Rattle.limb.proofs.Tests.{both_true}
use Rattle.numbers.specs.Operand.{Operand}
use Rattle.checks.specs.Number.{operand_of}
use Rattle.descent.proofs.GoingDown.{room_some}
use Rattle.aligned.specs.Aligned.{Standing}
use Rattle.aligned.proofs.Whole.{asks}
use Rattle.aligned.proofs.Stands.{limbs_modest}
use Rattle.aligned.proofs.AsFound.{top_modest, as_many, cancels_told, sign_is, within_runs, reducible_told, difference_stands, difference_clean, difference_told, sign_kept}
use Rattle.aligned.proofs.subtract.Goals as goal

pub is_low-requires : goal.is_low-requires
is_low-requires c =
    let m = limbs_modest c.args.p _ c.requires.0 in
    (top_modest _ _ _ _ c.requires.1 c.requires.3, omega arith)

pub alike-z-requires : goal.alike-z-requires
alike-z-requires c = as_many c.args.p c.args.x.number c.args.x.limbs.now c.args.y.number c.args.y.limbs.now c.args.target.now c.args.top c.requires.0 c.requires.1

pub returns-then-z-n : goal.returns-then-z-n
returns-then-z-n c =
    let r = c.cancelled in
    let k = cancels_told c.args.p c.args.x.number c.args.x.limbs.now c.args.y.number c.args.y.limbs.now c.args.target.now c.args.top c.requires.0 c.requires.1 _ c.alike-z.ensures c.if-z-n.true c.requires.2 in
    (r.ensures.0, r.ensures.1 c.args.p _ _ c.requires.0 k (sign_is c.args.x.number c.args.x.limbs.now) (sign_is c.args.y.number c.args.y.limbs.now))

pub is_second_larger-swapped-requires : goal.is_second_larger-swapped-requires
is_second_larger-swapped-requires c = (within_runs c.args.p c.args.x.number c.args.x.limbs.now c.args.y.number c.args.y.limbs.now c.args.target.now c.args.top c.requires.0 c.requires.1 _ c.alike-z.ensures c.if-z-n.false, as_many c.args.p c.args.x.number c.args.x.limbs.now c.args.y.number c.args.y.limbs.now c.args.target.now c.args.top c.requires.0 c.requires.1)

pub subtract_in_order-requires : goal.subtract_in_order-requires
subtract_in_order-requires c = reducible_told c.args.p c.args.x.number c.args.x.limbs.now c.args.y.number c.args.y.limbs.now c.args.target.now c.args.top c.requires.0 c.requires.1 _ c.alike-z.ensures c.if-z-n.false c.requires.2 _ c.is_second_larger-swapped.ensures

pub overflow_sub-n : goal.overflow_sub-n
overflow_sub-n c = room_some _ _ c.requires.0

pub bounds-target-n : goal.bounds-target-n
bounds-target-n c = omega (arith, room_some _ _ c.requires.0, c.subtract_in_order.auto.target)

pub settle_whole-requires : goal.settle_whole-requires
settle_whole-requires c =
    let swapped : Bool = c.is_second_larger-swapped.result in
    let first : Operand = operand_of c.args.x.number c.args.x.limbs.now in
    let second : Operand = operand_of c.args.y.number c.args.y.limbs.now in
    let skipped : ℕ = c.alike-z.result in
    let difference : List ℕ = c.subtract_in_order.new.target in
    let stands : Standing c.args.p (cond swapped second first) (cond swapped first second) difference false skipped c.args.top = difference_stands c.args.p c.args.x.number c.args.x.limbs.now c.args.y.number c.args.y.limbs.now c.args.target.now c.args.top c.requires.0 c.requires.1 _ c.alike-z.ensures c.if-z-n.false c.requires.2 _ c.is_second_larger-swapped.ensures
    c.requires.3 (sym c.is_low.ensures ∙ c.if-is_low.false) c.subtract_in_order.ensures c.if-target-n-eq0.false in
    let clean : c.args.x.number.precision ≤ c.args.p → c.args.y.number.precision ≤ c.args.p → value_of difference % 2 ^ (64 * length difference - c.args.p) ≡ 0 = difference_clean c.args.p c.args.x.number c.args.x.limbs.now c.args.y.number c.args.y.limbs.now c.args.target.now c.args.top c.requires.0 c.requires.1 _ c.alike-z.ensures c.if-z-n.false c.requires.2 _ c.is_second_larger-swapped.ensures
    stands in
    let ok = asks c.args.mode c.args.p _ _ _ _ _ _ stands in
    let few = both_true _ _ c.if-a-p.true in
    (ok.0, ok.1, clean (leb-true _ _ few.0) (leb-true _ _ few.1))

pub returns-then-a-p : goal.returns-then-a-p
returns-then-a-p c =
    let swapped : Bool = c.is_second_larger-swapped.result in
    let first : Operand = operand_of c.args.x.number c.args.x.limbs.now in
    let second : Operand = operand_of c.args.y.number c.args.y.limbs.now in
    let skipped : ℕ = c.alike-z.result in
    let difference : List ℕ = c.subtract_in_order.new.target in
    let stands : Standing c.args.p (cond swapped second first) (cond swapped first second) difference false skipped c.args.top = difference_stands c.args.p c.args.x.number c.args.x.limbs.now c.args.y.number c.args.y.limbs.now c.args.target.now c.args.top c.requires.0 c.requires.1 _ c.alike-z.ensures c.if-z-n.false c.requires.2 _ c.is_second_larger-swapped.ensures
    c.requires.3 (sym c.is_low.ensures ∙ c.if-is_low.false) c.subtract_in_order.ensures c.if-target-n-eq0.false in
    let signed : not (beq c.args.x.number.negative swapped) ≡ (cond swapped second first).negative = sign_kept c.args.p c.args.x.number c.args.x.limbs.now c.args.y.number c.args.y.limbs.now c.args.target.now c.args.top c.requires.0 c.requires.1 c.requires.2 swapped in
    let told = difference_told c.args.p c.args.x.number c.args.x.limbs.now c.args.y.number c.args.y.limbs.now c.args.target.now c.args.top c.requires.0 c.requires.1 swapped c.args.mode in
    let r = c.settle_whole in
    (c.settle_whole.auto.target ∙ c.subtract_in_order.auto.target, told _ _ _ r.ensures.1 (r.ensures.2 c.args.mode _ _ stands signed))

pub round_whole-requires : goal.round_whole-requires
round_whole-requires c =
    let swapped : Bool = c.is_second_larger-swapped.result in
    let first : Operand = operand_of c.args.x.number c.args.x.limbs.now in
    let second : Operand = operand_of c.args.y.number c.args.y.limbs.now in
    let skipped : ℕ = c.alike-z.result in
    let difference : List ℕ = c.subtract_in_order.new.target in
    let stands : Standing c.args.p (cond swapped second first) (cond swapped first second) difference false skipped c.args.top = difference_stands c.args.p c.args.x.number c.args.x.limbs.now c.args.y.number c.args.y.limbs.now c.args.target.now c.args.top c.requires.0 c.requires.1 _ c.alike-z.ensures c.if-z-n.false c.requires.2 _ c.is_second_larger-swapped.ensures
    c.requires.3 (sym c.is_low.ensures ∙ c.if-is_low.false) c.subtract_in_order.ensures c.if-target-n-eq0.false in
    asks c.args.mode c.args.p _ _ _ _ _ _ stands

pub returns : goal.returns
returns c =
    let swapped : Bool = c.is_second_larger-swapped.result in
    let first : Operand = operand_of c.args.x.number c.args.x.limbs.now in
    let second : Operand = operand_of c.args.y.number c.args.y.limbs.now in
    let skipped : ℕ = c.alike-z.result in
    let difference : List ℕ = c.subtract_in_order.new.target in
    let stands : Standing c.args.p (cond swapped second first) (cond swapped first second) difference false skipped c.args.top = difference_stands c.args.p c.args.x.number c.args.x.limbs.now c.args.y.number c.args.y.limbs.now c.args.target.now c.args.top c.requires.0 c.requires.1 _ c.alike-z.ensures c.if-z-n.false c.requires.2 _ c.is_second_larger-swapped.ensures
    c.requires.3 (sym c.is_low.ensures ∙ c.if-is_low.false) c.subtract_in_order.ensures c.if-target-n-eq0.false in
    let signed : not (beq c.args.x.number.negative swapped) ≡ (cond swapped second first).negative = sign_kept c.args.p c.args.x.number c.args.x.limbs.now c.args.y.number c.args.y.limbs.now c.args.target.now c.args.top c.requires.0 c.requires.1 c.requires.2 swapped in
    let told = difference_told c.args.p c.args.x.number c.args.x.limbs.now c.args.y.number c.args.y.limbs.now c.args.target.now c.args.top c.requires.0 c.requires.1 swapped c.args.mode in
    let r = c.round_whole in
    (c.round_whole.auto.target ∙ c.subtract_in_order.auto.target, told _ _ _ r.ensures.1 (r.ensures.2 _ _ stands signed))
