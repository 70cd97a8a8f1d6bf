-- `reader::form_in`: the top and the lowest limb stand where the definition has them. Assumes nothing.
use native.Mathlib.Omega.{arith}
use mathlib.Core.Path.{◌∙◌}
use Rattle.lines.proofs.Fields.{shortest_is, form_line}
use Rattle.reader.proofs.form_in.Goals as goal

pub field_at-top-requires : goal.field_at-top-requires
field_at-top-requires c = (c.requires.0, omega (arith, shortest_is), omega arith)

pub overflow_sub-line : goal.overflow_sub-line
overflow_sub-line c = omega (arith, shortest_is)

pub field_at-low-requires : goal.field_at-low-requires
field_at-low-requires c = (c.requires.0, omega (arith, shortest_is), omega arith)

pub returns : goal.returns
returns c =
    let a = c.args in
    let p = c.requires in
    c.form_holds.ensures ∙ form_line a.x a.line.now a.n _ _ p.1 p.2 c.field_at-low.ensures.0 c.field_at-top.ensures.0
