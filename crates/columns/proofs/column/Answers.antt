-- `walk::column` is right since a column's digits stand in one limb, or in the last digits of a limb and the first of the next. Assumes nothing.
use Rattle.std.proofs.Common.{◌≡◌, ℕ, ◌-◌, ◌*◌, ◌/◌, ◌%◌, ◌^◌, sym, ◌∙◌, arith, rules}
use lib.Bits.{bit_or, or_comm}
use Rattle.shifts.proofs.Windows.{moved_bits}
use Rattle.columns.specs.Column.{column_of}
use Rattle.columns.proofs.Reading.{column_early, column_whole, column_top, column_across}
use Rattle.columns.proofs.column.Goals as goal

pub returns-then-j-whole : goal.returns-then-j-whole
returns-then-j-whole c =
    let g = c.args in
    column_early g.limbs.now g.gap g.j (λ i. (c.type_inv.limbs i).fits) c.if-j-whole.true

pub returns-then-bits-eq0 : goal.returns-then-bits-eq0
returns-then-bits-eq0 c =
    let g = c.args in
    c.limb_below_top-low.ensures ∙ column_whole g.limbs.now g.gap g.j (λ i. (c.type_inv.limbs i).fits) c.if-j-whole.false c.if-bits-eq0.true

pub returns-then-i-eq0 : goal.returns-then-i-eq0
returns-then-i-eq0 c =
    let g = c.args in
    rw c.limb_below_top-low.ensures (column_top g.limbs.now g.gap g.j (λ i. (c.type_inv.limbs i).fits) c.if-j-whole.false c.if-i-eq0.true)

pub returns : goal.returns
returns c =
    let g = c.args in
    let low : ℕ = c.limb_below_top-low.result in
    let high : ℕ = c.limb_below_top-high.result in
    let b : ℕ = g.gap % 64 in
    let across : bit_or (high * 2 ^ (64 - b) % 2 ^ 64) (low / 2 ^ b) ≡ column_of g.j g.gap g.limbs.now =
    rw (c.limb_below_top-low.ensures, c.limb_below_top-high.ensures) (column_across g.limbs.now g.gap g.j (λ i. (c.type_inv.limbs i).fits) c.if-j-whole.false c.if-i-eq0.false) in
    c.moved.ensures ∙ sym (moved_bits low high b (omega arith) (search rules) (search rules)) ∙ or_comm (low / 2 ^ b) (high * 2 ^ (64 - b) % 2 ^ 64) ∙ across
