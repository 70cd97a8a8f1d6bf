-- `reader::number_in`: the fields of the definition, each below its width. Assumes nothing.
use Rattle.lines.proofs.Fields.{kind_is}
use native.Mathlib.Omega.{arith}
use mathlib.Core.Path.{◌∙◌}
use Rattle.lines.proofs.Fields.{number_fields, shortest_is, signed_back}
use Rattle.reader.proofs.number_in.Goals as goal

pub field_at-k-requires : goal.field_at-k-requires
field_at-k-requires c = (c.requires.0, omega (arith, shortest_is), omega arith)

pub field_at-precision-requires : goal.field_at-precision-requires
field_at-precision-requires c = (c.requires.0, omega (arith, shortest_is), omega arith)

pub field_at-requires : goal.field_at-requires
field_at-requires c = (c.requires.0, omega (arith, shortest_is), omega arith)

pub returns : goal.returns
returns c = number_fields c.args.line.now _ _ _ _ _ (c.field_at-k.ensures.0 ∙ kind_is _) c.field_at-precision.ensures.0 c.kind_of-kind.ensures (signed_back _ _ c.field_at.ensures.1 c.signed-exponent.ensures) c.field_at.ensures.0
