-- `entry::summed`: two zeros, one zero, its sum taken in the other order where the zero comes first, or two regular numbers. Assumes nothing.
use Rattle.sums.proofs.Entries.{kind_told}
use Rattle.general.proofs.Exchanged.{zero_first}
use Rattle.sums.proofs.entry.summed.Goals as goal

pub returns-then-is_zero-2 : goal.returns-then-is_zero-2
returns-then-is_zero-2 c =
    c.zeros.ensures _ _ (kind_told _ _ c.is_zero.ensures c.if-is_zero.true) (kind_told _ _ c.is_zero-then-is_zero.ensures c.if-is_zero-2.true)

pub returns-then-is_zero : goal.returns-then-is_zero
returns-then-is_zero c =
    zero_first c.args.mode _ _ _ _ _ _ _ c.requires (kind_told _ _ c.is_zero-then-is_zero.ensures c.if-is_zero-2.false) c.exchanged.ensures (c.single.ensures _ c.args.x.formed (kind_told _ _ c.is_zero.ensures c.if-is_zero.true))

pub returns-then-is_zero-3 : goal.returns-then-is_zero-3
returns-then-is_zero-3 c =
    c.single-then-is_zero-3.ensures _ c.args.y.formed (kind_told _ _ c.is_zero-2.ensures c.if-is_zero-3.true)
