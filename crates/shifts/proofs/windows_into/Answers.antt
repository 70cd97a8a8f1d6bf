-- `shifts::windows_into` is right since limb i of what is moved down by some bits is the 64 bits from that bit of limb i on. Assumes nothing.
use Rattle.std.proofs.Common.{◌∙◌, arith}
use Rattle.shifts.proofs.Windows.{none_written, limb_written, all_written, window_moved}
use Rattle.shifts.proofs.windows_into.Goals as goal

pub loop-i-init : goal.loop-i-init
loop-i-init c = none_written _ _

pub loop-i-preserved : goal.loop-i-preserved
loop-i-preserved c =
    let l = c.loop-i in
    limb_written _ _ l.target l.i _ (omega arith) (c.window_at.ensures ∙ window_moved _ _ l.i) l.invariant

pub returns : goal.returns
returns c =
    let l = c.loop-i in
    all_written _ _ _ l.i (omega arith) l.invariant
