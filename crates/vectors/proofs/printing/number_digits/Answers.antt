-- `printing::number_digits`: four fields are the whole. Assumes nothing.
use Rattle.std.proofs.Common.{arith}
use Rattle.vectors.proofs.Held.{four_fields}
use Rattle.vectors.proofs.printing.number_digits.Goals as goal

pub returns : goal.returns
returns c =
    four_fields _ _ _ _ _ _ _ _ 2 4 20 28 c.write_field.ensures.told c.write_field-2.ensures.told c.write_field-3.ensures.told c.write_field-4.ensures.told (omega (arith, c.write_field.ensures.size, c.write_field-2.ensures.size, c.write_field-3.ensures.size, c.write_field-4.ensures.size))
