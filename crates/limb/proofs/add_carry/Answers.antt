-- `limb::add_carry` is right since each wrapping sum drops 2^64 exactly when it comes out below its first operand, and a sum that
-- dropped 2^64 once is too small to drop it again with a carry of 1. Assumes nothing.
use Rattle.std.proofs.Common.{◌+◌, ◌%◌, ◌^◌, ◌<◌, refl, arith}
use mir.Val.{bool_byte}
use Rattle.limb.proofs.Carry.{bit_byte, byte_le, sum_carry, two_sums}
use Rattle.limb.proofs.add_carry.Goals as goal

pub returns : goal.returns
returns c =
    let g = c.args in
    let k = bool_byte g.carry in
    let one = byte_le g.carry in
    let two : (g.a + g.b) % 2 ^ 64 < 2 ^ 64 = omega arith in
    rw (bit_byte g.carry)
    (two_sums (2 ^ 64) g.a g.b _ _ k _ _ c.ranges.a.fits c.ranges.b.fits one
    (sum_carry g.a g.b _ c.ranges.a.fits c.ranges.b.fits refl)
    (sum_carry _ k _ two (omega arith) refl))
