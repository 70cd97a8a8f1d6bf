-- `shifts::move_into` is right since the 64 bits that come to limb i lie across the run's limb i and the next, and the limbs that the loop
-- leaves are those of the part from there on, moved down alike. Assumes nothing.
use Rattle.std.proofs.Common.{◌≡◌, ℕ, ◌≤◌, ◌∙◌, length, arith}
use lib.ListN.{length-drop}
use Rattle.shifts.proofs.Windows.{none_written, limb_written, across_twice, window_moved, part_moved, rest_written}
use Rattle.parts.proofs.Parts.{part_is}
use Rattle.shifts.proofs.move_into.Goals as goal

pub loop-i-init : goal.loop-i-init
loop-i-init c = none_written _ _

pub loop-i-preserved : goal.loop-i-preserved
loop-i-preserved c =
    let l = c.loop-i in
    limb_written _ _ l.target l.i _ (omega arith)
    (across_twice _ l.i c.args.bits c.requires (λ i. (c.shared_slice_known-1.given i).fits) ∙ window_moved _ c.args.bits l.i) l.invariant

pub returns : goal.returns
returns c =
    let l = c.loop-i in
    let end : ℕ = c.min-end.result in
    let h : end ≤ length c.args.target.now = omega arith in
    let all : l.i ≡ end = omega arith in
    let moved = part_moved c.args.s.now end c.args.bits c.requires (λ i. (c.type_inv.s i).fits) in
    rest_written _ _ l.target end _ h (rw all at l.invariant)
    (rw (part_is l.target end, length-drop, l.invariant.same_length, c.part_from.ensures, moved) at c.windows_into.ensures)
