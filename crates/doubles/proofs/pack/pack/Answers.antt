-- `doubles::pack::pack`: the exponent's field is below that of ones, so the sum is no NaN's pattern and does not pass 2^64. Assumes nothing.
use Prim.Native.Nat.{◌/◌, ◌^◌}
use native.Mathlib.Omega.{arith}
use Rattle.numbers.specs.Limits.{bias}
use Rattle.unpack.specs.Double.{double_least, double_most, packed, double}
use Rattle.unpack.proofs.Bits.{sign_le, not_nan, packed_no_nan}
use Rattle.doubles.proofs.Cases.{least_literal, most_literal}
use Rattle.doubles.proofs.pack.pack.Goals as goal

pub overflow_sub-field : goal.overflow_sub-field
overflow_sub-field c = omega (arith, least_literal)

pub overflow_mul-result : goal.overflow_mul-result
overflow_mul-result c = omega (arith, least_literal, most_literal)

pub overflow_add-result : goal.overflow_add-result
overflow_add-result c = omega (arith, least_literal, most_literal, sign_le c.args.negative)

pub overflow_add-result-2 : goal.overflow_add-result-2
overflow_add-result-2 c = omega (arith, least_literal, most_literal, sign_le c.args.negative)

pub float_from_bits-result : goal.float_from_bits-result
unfolding packed double_least double_most bias
float_from_bits-result c = rw c.sign_bit.ensures (not_nan (packed_no_nan c.args.negative c.args.exponent (c.args.limb / 2 ^ 11) c.requires.0 c.requires.1 (omega arith) (omega arith)))

pub returns : goal.returns
unfolding double packed double_least bias
returns c = rw c.sign_bit.ensures
