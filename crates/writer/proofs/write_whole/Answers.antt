-- `writer::write_whole`: the head, the limbs of a regular number, LF. Assumes nothing.
use lib.ListN.{length-set}
use native.Mathlib.Omega.{arith}
use mathlib.Core.Path.{refl, sym, ◌∙◌}
use Rattle.lines.proofs.Fields.{shortest_is}
use Rattle.lines.proofs.Size.{at_least, regular_length}
use Rattle.lines.proofs.Answered.{zero_written, regular_written}
use Rattle.writer.proofs.write_whole.Goals as goal

pub write_head-requires : goal.write_head-requires
write_head-requires c =
    let a = c.args in
    omega (arith, at_least a.x a.limbs.now)

pub bounds-room-14 : goal.bounds-room-14
bounds-room-14 c =
    let a = c.args in
    omega (arith, at_least a.x a.limbs.now, shortest_is)

pub returns-then-is_zero : goal.returns-then-is_zero
returns-then-is_zero c =
    let a = c.args in
    zero_written a.x a.limbs.now a.room.now _ c.write_head.ensures (sym c.is_zero.ensures ∙ c.if-is_zero.true) (omega (arith, at_least a.x a.limbs.now, shortest_is))

pub slice_bounds-write_limbs-end : goal.slice_bounds-write_limbs-end
slice_bounds-write_limbs-end c =
    let a = c.args in
    omega (arith, regular_length a.x a.limbs.now (sym c.is_zero.ensures ∙ c.if-is_zero.false))

pub bounds-room-last : goal.bounds-room-last
bounds-room-last c =
    let a = c.args in
    omega (arith, regular_length a.x a.limbs.now (sym c.is_zero.ensures ∙ c.if-is_zero.false))

pub shape_of-room : goal.shape_of-room
shape_of-room c = simp length-set (omega arith)

pub returns : goal.returns
returns c =
    let a = c.args in
    let z = sym c.is_zero.ensures ∙ c.if-is_zero.false in
    regular_written a.x a.limbs.now a.room.now _ c.write_head.ensures _ _ z refl (omega (arith, regular_length a.x a.limbs.now z)) c.write_limbs.ensures
