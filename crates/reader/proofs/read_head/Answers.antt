-- `reader::read_head`: too short, no digits, else as the digits say. Assumes nothing.
use native.Mathlib.Omega.{arith}
use mathlib.Core.Path.{sym, ◌∙◌}
use Rattle.lines.proofs.Fields.{shortest_is}
use Rattle.lines.proofs.Tests.{refused_head, too_short, no_digits}
use Rattle.reader.proofs.read_head.Goals as goal

pub returns-then-line-lt-SHORTEST_LINE : goal.returns-then-line-lt-SHORTEST_LINE
returns-then-line-lt-SHORTEST_LINE c = rw c.fault.ensures (refused_head c.args.line.now _ (too_short _ (omega (arith, shortest_is))))

pub returns-then-not-digits_hold : goal.returns-then-not-digits_hold
returns-then-not-digits_hold c = rw c.fault-then-not-digits_hold.ensures (refused_head c.args.line.now _ (no_digits _ (omega (arith, shortest_is)) (sym c.digits_hold.ensures ∙ c.if-not-digits_hold.true)))

pub digits_head-requires : goal.digits_head-requires
digits_head-requires c = (sym c.digits_hold.ensures ∙ c.if-not-digits_hold.false, omega (arith, shortest_is))
