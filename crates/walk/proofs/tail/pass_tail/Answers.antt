-- `walk::pass_tail` is right since a tail that stays only grows, and one that is changed passes the change on or holds it. Assumes nothing.
use mathlib.Core.Path.{sym, ◌∙◌}
use Rattle.walk.proofs.Tails.{tail_stays, tail_turned, tail_holds}
use Rattle.walk.proofs.tail.pass_tail.Goals as goal

pub returns-in_default : goal.returns-in_default
returns-in_default c = rw c.in_default.is (tail_stays c.args.low c.args.tail c.longer.result c.longer.ensures)

pub returns-in-Some-turned : goal.returns-in-Some-turned
returns-in-Some-turned c =
    let r = c.longer-in-Some-turned in
    let s = c.in-Some-turned in
    rw c.in-Some.is (tail_turned c.in-Some.by_one c.args.tail s.next c.args.low r.result (sym c.turned.ensures ∙ s.is) r.ensures)

pub returns-in-None : goal.returns-in-None
returns-in-None c = rw c.in-Some.is (tail_holds c.in-Some.by_one c.args.tail c.args.low c.ranges.low.fits (sym c.turned.ensures ∙ c.in-None.is))
