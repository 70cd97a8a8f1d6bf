-- `shifts::low_is_zero` is right since the low k bits are the limbs below limb k / 64 and the low k % 64 bits of that limb. Assumes nothing.
use Rattle.std.proofs.Common.{◌%◌, sym, ◌∙◌, arith}
use Rattle.limb.proofs.Powers.{one_moved}
use Rattle.shifts.proofs.LowBits.{zeros_decide, nonzero_decides}
use Rattle.shifts.proofs.low_is_zero.Goals as goal

pub returns-then-zeros_below : goal.returns-then-zeros_below
returns-then-zeros_below c =
    let g = c.args in
    rw (c.limb_at.ensures, one_moved (g.k % 64) (omega arith))
    (zeros_decide g.s.now g.k (λ i. (c.type_inv.s i).fits) (sym c.zeros_below.ensures ∙ c.if-zeros_below.true))

pub returns-else-zeros_below : goal.returns-else-zeros_below
returns-else-zeros_below c =
    let g = c.args in
    c.if-zeros_below.false ∙ nonzero_decides g.s.now g.k (λ i. (c.type_inv.s i).fits) (sym c.zeros_below.ensures ∙ c.if-zeros_below.false)
