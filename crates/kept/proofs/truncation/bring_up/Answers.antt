-- `kept::truncation::bring_up` is right since the digits from the first on are those of the target moved down by one bit, of the target
-- as it stands, or of the target moved up with the guard's first digits below. Assumes nothing.
use mathlib.Core.Path.{refl, ◌∙◌}
use native.Mathlib.Omega.{arith}
use Rattle.kept.proofs.Reaching.{brought_down, brought_whole, brought_up}
use Rattle.kept.proofs.truncation.bring_up.Goals as goal

pub returns-then-carry : goal.returns-then-carry
returns-then-carry c =
    let m = c.move_down.ensures in
    let h = c.if-carry.true in
    let g = c.args in
    record { size = m.size; value = m.value ∙ brought_down g.carry g.target.now g.guard g.offset c.ranges.guard.fits c.requires h }

pub returns-then-offset-eq64 : goal.returns-then-offset-eq64
returns-then-offset-eq64 c =
    let g = c.args in
    record { size = refl; value = brought_whole g.carry g.target.now g.guard g.offset c.ranges.guard.fits c.if-carry.false c.if-offset-eq64.true }

pub overflow_sub-offset : goal.overflow_sub-offset
overflow_sub-offset c = c.requires.plain c.if-carry.false

pub move_up-requires : goal.move_up-requires
move_up-requires c =
    let le = c.requires.plain c.if-carry.false in
    let ne = c.if-offset-eq64.false in
    let some = c.requires.positive in
    (omega arith, omega arith)

pub returns : goal.returns
returns c =
    let m = c.move_up.ensures in
    let g = c.args in
    record {
      size = m.size;
      value = m.value ∙ brought_up g.carry g.target.now g.guard g.offset c.ranges.guard.fits c.requires c.if-carry.false;
    }
