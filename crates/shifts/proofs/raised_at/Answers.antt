-- `shifts::raised_at` is right since a limb of the run moved up is 0 below limb k / 64, and from there on the 64 bits of the run
-- that come there. Assumes nothing.
use mathlib.Core.Path.{◌∙◌}
use Rattle.shifts.proofs.Windows.{raised_below, raised_whole, raised_lowest, raised_above}
use Rattle.shifts.proofs.raised_at.Goals as goal

pub returns-then-i-limbs : goal.returns-then-i-limbs
returns-then-i-limbs c =
    let g = c.args in
    raised_below g.s.now g.k g.i (λ i. (c.type_inv.s i).fits) c.if-i-limbs.true

pub returns-then-bits-eq0 : goal.returns-then-bits-eq0
returns-then-bits-eq0 c =
    let g = c.args in
    c.limb_at.ensures ∙ raised_whole g.s.now g.k g.i (λ i. (c.type_inv.s i).fits) c.if-i-limbs.false c.if-bits-eq0.true

pub returns-then-from-eq0 : goal.returns-then-from-eq0
returns-then-from-eq0 c =
    let g = c.args in
    rw c.limb_at-then-from-eq0.ensures
    (raised_lowest g.s.now g.k g.i (λ i. (c.type_inv.s i).fits) c.if-i-limbs.false c.if-from-eq0.true)

pub returns : goal.returns
returns c =
    let g = c.args in
    c.window_at.ensures
    ∙ raised_above g.s.now g.k g.i (λ i. (c.type_inv.s i).fits) c.if-i-limbs.false c.if-bits-eq0.false
    c.if-from-eq0.false
