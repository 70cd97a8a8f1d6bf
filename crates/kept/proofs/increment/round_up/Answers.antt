-- `kept::increment::round_up` is right since a carry leaves the top only where all digits were ones, and then all are 0 after it.
-- Assumes nothing.
use Rattle.kept.proofs.Unit.{stays, fits, overflows}
use Rattle.kept.proofs.increment.round_up.Goals as goal

pub returns-then-not-up : goal.returns-then-not-up
returns-then-not-up c =
    let g = c.args in
    rw (c.if-not-up.true) (stays g.target.now g.spare c.requires.0 c.requires.1 (λ i. (c.type_inv.target i).fits) c.requires.2)

pub returns-then-not-add_unit : goal.returns-then-not-add_unit
returns-then-not-add_unit c =
    let g = c.args in
    rw (c.if-not-up.false)
    (fits g.target.now g.spare c.requires.0 c.requires.1 (λ i. (c.slice_known-1.given i).fits) c.requires.2
    c.add_unit.new.target (λ i. (c.type_inv.target i).fits) (rw (c.if-not-add_unit.true) at c.add_unit.ensures))

pub returns : goal.returns
returns c =
    let g = c.args in
    rw (c.if-not-up.false)
    (overflows g.target.now g.spare c.requires.0 c.requires.1 (λ i. (c.slice_known-1.given i).fits) c.requires.2
    c.add_unit.new.target (λ i. (c.slice_known-2-1.given i).fits) (rw (c.if-not-add_unit.false) at c.add_unit.ensures))
