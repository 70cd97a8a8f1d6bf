-- `writer::write_head`: three parts, each after the one before. Assumes nothing.
use mir.Facts.{to_z-of_z}
use mir.Val.{SFits}
use mir.Syntax.{w32}
use Rattle.lines.proofs.Room.{two_lengths}
use Prim.Native.Nat.{ℕ}
use Rattle.text.specs.Digits.{numeral}
use Rattle.text.proofs.Numeral.{length_numeral}
use native.Mathlib.Omega.{arith}
use mathlib.Core.Path.{refl, sym, ◌∙◌}
use mathlib.Core.List.{List, []}
use Rattle.lines.proofs.Fields.{shortest_is}
use Rattle.lines.proofs.Room.{onto_nothing, put_numeral, head_parts}
use Rattle.writer.proofs.write_head.Goals as goal

pub slice_bounds-write_digits-end : goal.slice_bounds-write_digits-end
slice_bounds-write_digits-end c = omega (arith, shortest_is)

pub slice_bounds-write_digits-end-2 : goal.slice_bounds-write_digits-end-2
slice_bounds-write_digits-end-2 c = omega (arith, shortest_is)

pub slice_bounds-write_digits-end-3 : goal.slice_bounds-write_digits-end-3
slice_bounds-write_digits-end-3 c = omega (arith, shortest_is)

pub returns : goal.returns
returns c =
    let a = c.args in
    let r : List ℕ = a.room.now in
    let k = c.kind_byte in
    let k1 = put_numeral r [] r _ 0 2 2 k.result (onto_nothing r) refl refl (omega (arith, shortest_is)) c.write_digits.ensures in
    let k2 = put_numeral _ (numeral 2 k.result) r _ 2 6 4 a.x.precision k1 (sym (length_numeral 2 _)) refl (omega (arith, shortest_is)) c.write_digits-2.ensures in
    let k3 = put_numeral _ _ r _ 6 14 8 c.counted_exponent.result k2 (two_lengths k.result a.x.precision) refl (omega (arith, shortest_is)) c.write_digits-3.ensures in
    let f : SFits w32 a.x.exponent = record { sfits = c.struct_told-1.given.1.1.1.0.1 } in
    k3 ∙ head_parts a.x r _ _ f k.ensures (rw (to_z-of_z f) at c.counted_exponent.ensures)
