-- `reader::signed`: the library's reading of 32 bits. Assumes nothing.
use mathlib.Core.Path.{◌∙◌}
use Rattle.lines.proofs.Fields.{signed_is, signed_back}
use Rattle.reader.proofs.signed.Goals as goal

pub returns : goal.returns
returns c = signed_back c.args.word _ c.requires (c.cast_signed.ensures ∙ signed_is c.args.word c.requires)
