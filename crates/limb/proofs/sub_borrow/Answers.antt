-- `limb::sub_borrow` is right since each wrapping difference borrows 2^64 exactly when its first operand is below its second, and a
-- difference that borrowed 2^64 once is large enough to give a borrow of 1. Assumes nothing.
use Rattle.std.proofs.Common.{◌^◌, arith}
use mir.Val.{bool_byte}
use Rattle.limb.proofs.Carry.{bit_byte, byte_le, wrapped_lt, wrapped_borrow, two_differences}
use Rattle.limb.proofs.sub_borrow.Goals as goal

pub returns : goal.returns
returns c =
    let g = c.args in
    let k = bool_byte g.borrow in
    let one = byte_le g.borrow in
    let part = wrapped_lt g.a g.b in
    rw (bit_byte g.borrow)
    (two_differences (2 ^ 64) g.a g.b _ _ k _ _ c.ranges.b.fits (wrapped_lt _ k) one
    (wrapped_borrow g.a g.b c.ranges.a.fits c.ranges.b.fits)
    (wrapped_borrow _ k part (omega arith)))
