-- `stream::read_number`: the head, then the limbs, into as many as the precision takes. Assumes nothing.
use Prim.Native.Nat.{◌-◌, ◌≤◌}
use mathlib.Core.Path.{refl}
use native.Mathlib.Omega.{arith}
use lib.ListN.{length, take, drop}
use Rattle.std.proofs.lemmas.Result.{err_from_is_err_and}
use Rattle.stream.proofs.Numbers.{too_long, head_refused, part_length, line_told}
use Rattle.stream.proofs.number.read_number.Goals as goal

pub returns-then-longest_line-line : goal.returns-then-longest_line-line
returns-then-longest_line-line c =
    let g = c.args in
    too_long g.place g.line.now (omega (arith, c.if-longest_line-line.true, c.longest_line.ensures))

pub returns-in_err-number : goal.returns-in_err-number
returns-in_err-number c =
    let g = c.args in
    let p = err_from_is_err_and c.from_residual.result c.from_residual.ensures.1 in
    rw (p.1, p.2) (head_refused g.place g.line.now (omega (arith, c.if-longest_line-line.false, c.longest_line.ensures)) _ _ c.read_head.ensures c.in_err-number.ensures)

pub slice_bounds-read_line-end : goal.slice_bounds-read_line-end
slice_bounds-read_line-end c = omega (arith, c.limb_count-n.ensures, c.requires)

pub returns : goal.returns
returns c =
    let g = c.args in
    let n = c.limb_count-n in
    let l = c.read_line in
    let few : n.result ≤ length g.room.now = omega (arith, n.ensures, c.requires) in
    line_told g.place g.line.now (omega (arith, c.if-longest_line-line.false, c.longest_line.ensures)) _ _ c.read_head.ensures c.in_ok-number.ensures n.result n.ensures g.room.now (take (n.result - 0) (drop 0 g.room.now)) l.new.target (part_length g.room.now n.result few) l.result l.ensures.value _ _ c.placed-2.ensures l.ensures.target_after l.auto.target refl
