-- `shifts::window_at` is right since 64 bits from a bit of a limb on are that limb and the next moved down. Assumes nothing.
use mathlib.Core.Path.{◌∙◌}
use Rattle.shifts.proofs.Windows.{whole, between}
use Rattle.shifts.proofs.window_at.Goals as goal

pub returns-then-bits-eq0 : goal.returns-then-bits-eq0
returns-then-bits-eq0 c =
    let g = c.args in
    c.limb_at-low.ensures
    ∙ whole g.s.now g.limbs g.bits c.requires.1 (λ i. (c.type_inv.s i).fits) c.if-bits-eq0.true

pub returns-else-bits-eq0 : goal.returns-else-bits-eq0
returns-else-bits-eq0 c =
    let g = c.args in
    (rw (c.limb_at-low.ensures, c.limb_at-high.ensures) at c.moved.ensures) ∙ between g.s.now g.limbs g.bits c.requires.1 (λ i. (c.type_inv.s i).fits)
