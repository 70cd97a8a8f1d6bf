-- `lines::digits_hold`: LF at the end, then the digits before it. Assumes nothing.
use mathlib.Core.Path.{refl}
use Rattle.lines.proofs.Fields.{no_end, digits_left}
use Rattle.lines.proofs.digits.digits_hold.Goals as goal

pub returns-then-line-last-ne10 : goal.returns-then-line-last-ne10
returns-then-line-last-ne10 c = no_end c.args.line.now _ refl c.if-line-last-ne10.true

pub returns : goal.returns
returns c = digits_left c.args.line.now _ _ refl c.if-line-last-ne10.false c.all_digits.ensures
