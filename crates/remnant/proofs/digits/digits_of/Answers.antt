-- `walk::digits_of` is right since the carry is the first digit where it is 1, and else the first digit stands in the first limb filled, which is not 0. Assumes nothing.
use Prim.Native.Nat.{◌-◌}
use native.Mathlib.Nat.{pos_of_ne-zero}
use native.Mathlib.Omega.{arith}
use lib.Count.{leading_le}
use lib.ListN.{length, get_or}
use Rattle.std.specs.Option.{is_some}
use Rattle.limb.proofs.Carry.{bit_le}
use Rattle.remnant.proofs.Sizes.{digits_carry, digits_none, digits_limb, with_carry, without_carry, unfilled_unguarded}
use Rattle.remnant.proofs.digits.digits_of.Goals as goal

pub overflow_add-kept : goal.overflow_add-kept
overflow_add-kept c = omega (arith, c.guard_digits.ensures, bit_le (is_some c.args.w.guard))

pub overflow_add-result : goal.overflow_add-result
overflow_add-result c = omega (arith, c.guard_digits.ensures, bit_le (is_some c.args.w.guard))

pub returns-then-w : goal.returns-then-w
returns-then-w c =
    let g = c.args in
    let e = c.guard_digits.ensures in
    with_carry g.w g.target.now _ c.if-w.true (omega arith) (λ k D s. omega (arith, digits_carry g.w g.target.now (λ i. (c.type_inv.target i).fits) k D s c.if-w.true))

pub returns-then-filled-eq0 : goal.returns-then-filled-eq0
returns-then-filled-eq0 c =
    let g = c.args in
    let none = unfilled_unguarded g.w g.target.now 0 c.requires.0 c.if-filled-eq0.true in
    without_carry g.w g.target.now 0 c.if-w.false (omega arith) (omega arith) (λ k D s. digits_none g.w g.target.now (λ i. (c.type_inv.target i).fits) k D s c.if-w.false c.if-filled-eq0.true)

pub overflow_cast-result : goal.overflow_cast-result
overflow_cast-result c = omega (arith, leading_le 64 (get_or c.args.target.now (length c.args.target.now - 1) 0))

pub overflow_sub-result : goal.overflow_sub-result
overflow_sub-result c = omega (arith, leading_le 64 (get_or c.args.target.now (length c.args.target.now - 1) 0))

pub returns : goal.returns
returns c =
    let g = c.args in
    let e = c.guard_digits.ensures in
    let top = leading_le 64 (get_or g.target.now (length g.target.now - 1) 0) in
    let some = pos_of_ne-zero c.if-filled-eq0.false in
    without_carry g.w g.target.now _ c.if-w.false (omega arith) (omega arith)
    (λ k D s. rw c.guard_digits.ensures (digits_limb g.w g.target.now (λ i. (c.shared_slice_known-1.given i).fits) k D s c.if-w.false some))
