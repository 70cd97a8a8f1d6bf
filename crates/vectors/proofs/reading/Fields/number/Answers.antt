-- `Fields::number`: field by field what the definition says. Assumes nothing.
use mathlib.Core.Path.{◌∙◌}
use mir.Facts.{to_z-of_z}
use mir.Syntax.{w32}
use Rattle.vectors.proofs.Digits.{second_rest, third_rest, fourth_rest, numbered}
use Rattle.vectors.proofs.reading.Fields.number.Goals as goal

pub returns-clause-value : goal.returns-clause-value
returns-clause-value c =
    let second = second_rest c.args.self.now.rest.now _ _ c.byte-sign.ensures.rest c.byte.ensures.rest in
    let third = third_rest c.args.self.now.rest.now _ _ second c.word-precision.ensures.rest in
    numbered c.args.self.now.rest.now _ _ _ _ _ _ _ _ _ _ c.byte-sign.ensures.value c.byte-sign.ensures.rest c.byte.ensures.value c.kind_of-kind.ensures second c.word-precision.ensures.value third c.quad.ensures.value c.counted_from.ensures (to_z-of_z {w = w32} {z = c.exponent_of-exponent.result} (record { sfits = c.exponent_of-exponent.type_inv }) ∙ c.exponent_of-exponent.ensures)

pub returns-clause-rest : goal.returns-clause-rest
returns-clause-rest c =
    let second = second_rest c.args.self.now.rest.now _ _ c.byte-sign.ensures.rest c.byte.ensures.rest in
    fourth_rest c.args.self.now.rest.now _ _ (third_rest c.args.self.now.rest.now _ _ second c.word-precision.ensures.rest) c.quad.ensures.rest
