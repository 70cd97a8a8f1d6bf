-- `printing::write_field`: the field's digits stand at its place. Assumes nothing.
use Rattle.std.proofs.Common.{arith}
use Rattle.vectors.proofs.Held.{field_stored}
use Rattle.vectors.proofs.printing.write_field.Goals as goal

pub returns-clause-told : goal.returns-clause-told
returns-clause-told c =
    field_stored c.args.digits c.args.start c.args.value c.args.room.now c.write_digits.new.room (omega arith) (omega arith) (omega arith) (omega arith) c.write_digits.ensures
