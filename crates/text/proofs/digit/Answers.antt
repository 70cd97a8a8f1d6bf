-- `text::digit`: each range of bytes has the value of the definition. Assumes nothing.
use Rattle.std.proofs.Common.{sym, arith}
use Rattle.text.proofs.Digits.{below, decimal, between, letter, above}
use Rattle.text.proofs.digit.Goals as goal

pub returns-in-48-to-57 : goal.returns-in-48-to-57
returns-in-48-to-57 c = sym (decimal c.args.b (omega arith) (omega arith))

pub returns-in-97-to-102 : goal.returns-in-97-to-102
returns-in-97-to-102 c = rw (letter c.args.b (omega arith) (omega arith)) (omega arith)

pub returns-in_default : goal.returns-in_default
returns-in_default c = sym (below c.args.b (omega arith))

pub returns-in_default-2 : goal.returns-in_default-2
returns-in_default-2 c = sym (between c.args.b (omega arith) (omega arith))

pub returns-in_default-3 : goal.returns-in_default-3
returns-in_default-3 c = sym (above c.args.b (omega arith))
