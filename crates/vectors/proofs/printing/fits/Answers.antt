-- `printing::fits`: the number shifted by all digits but one is a digit. Assumes nothing.
use Rattle.std.proofs.Common.{ltb-true, arith}
use Rattle.vectors.proofs.Numerals.{fits_below}
use Rattle.vectors.proofs.printing.fits.Goals as goal

pub returns : goal.returns
returns c e = (omega arith, omega arith, fits_below c.args.digits c.args.low (omega arith) (ltb-true _ 16 e))
