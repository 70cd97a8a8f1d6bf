-- `lines::field_at`: sixteen digits fit 64 bits, so nothing is dropped. Assumes nothing.
use mathlib.Core.Path.{refl, ◌∙◌}
use Rattle.lines.proofs.Fields.{field_whole, field_lt}
use Rattle.lines.proofs.digits.field_at.Goals as goal

pub returns : goal.returns
returns c =
    let a = c.args in
    let p = c.requires in
    let e = c.read_digits.ensures ∙ field_whole a.line.now a.at a.n _ p.0 p.1 p.2 refl in
    (e, rw e (field_lt a.line.now a.at a.n p.0 p.1))
