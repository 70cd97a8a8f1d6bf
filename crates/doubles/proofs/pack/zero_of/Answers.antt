-- `doubles::pack::zero_of`: the pattern with every bit below the sign 0 is no NaN's. Assumes nothing.
use Rattle.unpack.specs.Double.{double}
use Rattle.unpack.proofs.Bits.{zero_no_nan, not_nan}
use Rattle.doubles.proofs.pack.zero_of.Goals as goal

pub float_from_bits-result : goal.float_from_bits-result
float_from_bits-result c = rw c.sign_bit.ensures (not_nan (zero_no_nan c.args.negative))

pub returns : goal.returns
unfolding double
returns c = rw c.sign_bit.ensures
