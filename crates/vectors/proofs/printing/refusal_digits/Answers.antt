-- `printing::refusal_digits`: two fields are the whole. Assumes nothing.
use Rattle.std.proofs.Common.{arith}
use Rattle.vectors.proofs.Held.{two_fields}
use Rattle.vectors.proofs.printing.refusal_digits.Goals as goal

pub returns : goal.returns
returns c = two_fields _ _ _ _ 2 4 c.write_field.ensures.told c.write_field-2.ensures.told (omega (arith, c.write_field.ensures.size, c.write_field-2.ensures.size))
