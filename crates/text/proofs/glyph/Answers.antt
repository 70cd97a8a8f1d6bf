-- `text::glyph`: below ten a decimal digit, else a letter. Assumes nothing.
use Rattle.std.proofs.Common.{◌%◌, arith}
use Rattle.text.proofs.Digits.{glyph_decimal, glyph_letter}
use Rattle.text.proofs.glyph.Goals as goal

pub returns-in-0-to-9 : goal.returns-in-0-to-9
returns-in-0-to-9 c = rw (glyph_decimal (c.args.value % 16) (omega arith)) (omega arith)

pub returns-in_default : goal.returns-in_default
returns-in_default c = rw (glyph_letter (c.args.value % 16) (omega arith)) (omega arith)
