-- `run::step_into` is right since after i limbs the target's lowest i limbs are one column of those that stood there and the operand's, with
-- the carry on top, and the part above them, which stands as it did, is left to `step_few`. Assumes nothing.
use Rattle.std.proofs.Common.{◌≡◌, ℕ, ◌+◌, ◌*◌, ◌/◌, length, refl, arith}
use Rattle.parts.proofs.Parts.{part_is}
use Rattle.run.proofs.Stepping.{none_stepped, four_stepped, rest_stepped}
use Rattle.run.proofs.walk.step_into.Goals as goal

pub loop-turn-init : goal.loop-turn-init
loop-turn-init g c = none_stepped _ g.met.S.Step.begins _ _ _

pub loop-turn-preserved : goal.loop-turn-preserved
loop-turn-preserved g c =
    let l = c.loop-turn in
    let joins = g.met.S.Step.joins in
    four_stepped _ joins _ _ _ _ _ (8 * l.turn + 4) _ _ _ (omega arith) (omega arith) c.step_four-up-in-loop-turn.ensures
    (four_stepped _ joins _ _ _ l.target _ (8 * l.turn) _ l.up _ refl (omega arith) c.step_four-up.ensures l.invariant)

pub returns : goal.returns
returns g c =
    let l = c.loop-turn in
    let o = c.args.operand.now in
    let done : ℕ = 8 * (length c.args.target.now / 8) in
    let all : 8 * l.turn ≡ done = omega arith in
    rest_stepped _ g.met.S.Step.joins _ _ _ l.target l.up done _ _ (omega arith) (omega arith) (rw all at l.invariant)
    (rw (part_is l.target done, part_is o done) at c.step_few.ensures)
