-- `shifts::shift_down_into` is right since a run moved down by k bits is what is left of it above limb k / 64, moved down by k % 64 bits. Assumes nothing.
use Rattle.shifts.proofs.Windows.{moved_down, moved_down_whole}
use Rattle.shifts.proofs.shift_down_into.Goals as goal

pub returns-then-target-part : goal.returns-then-target-part
returns-then-target-part c =
    let g = c.args in
    rw (c.part_from-part.ensures, moved_down_whole g.s.now g.k (λ i. (c.type_inv.s i).fits) c.if-bits-eq0.true) at c.copy_into.ensures

pub returns-then-target-lt8 : goal.returns-then-target-lt8
returns-then-target-lt8 c =
    let g = c.args in
    rw (c.part_from-part.ensures, moved_down g.s.now g.k (λ i. (c.type_inv.s i).fits)) at c.windows_into.ensures

pub returns : goal.returns
returns c =
    let g = c.args in
    rw (c.part_from-part.ensures, moved_down g.s.now g.k (λ i. (c.type_inv.s i).fits)) at c.move_into.ensures
