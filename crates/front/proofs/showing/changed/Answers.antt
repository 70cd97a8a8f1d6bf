-- `front::showing::changed` is right since a carry out of the limb goes into the carry above it, and a borrow takes it. Assumes nothing.
use native.Mathlib.Omega.{arith}
use Rattle.front.proofs.Stepping.{first_stays, first_rises, first_falls}
use Rattle.front.proofs.showing.changed.Goals as goal

pub returns-in_default : goal.returns-in_default
returns-in_default c =
    let g = c.args in
    rw c.in_default.is (first_stays g.carry g.limb g.tail)

pub returns-in-Rise : goal.returns-in-Rise
returns-in-Rise c =
    let g = c.args in
    let s = c.add_carry-s in
    rw (c.in-Some.is, c.in-Rise.is) (first_rises g.carry g.limb g.tail s.result.limb s.result.carry s.ensures)

pub returns-in-Fall : goal.returns-in-Fall
returns-in-Fall c =
    let g = c.args in
    let d = c.sub_borrow-d in
    rw (c.in-Some.is, c.in-Fall.is) (first_falls g.carry g.limb g.tail d.result.limb d.result.carry (omega arith) d.ensures)
