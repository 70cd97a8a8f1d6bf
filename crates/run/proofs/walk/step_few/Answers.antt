-- `run::step_few` is right since after the lowest four limbs the part from there on is left to `step_each`. Assumes nothing.
use Rattle.std.proofs.Common.{refl, arith}
use Rattle.parts.proofs.Parts.{part_is}
use Rattle.run.proofs.Stepping.{none_stepped, four_stepped, rest_stepped}
use Rattle.run.proofs.walk.step_few.Goals as goal

pub returns : goal.returns
returns g c =
    let t = c.step_four-up.new.target in
    let joins = g.met.S.Step.joins in
    rest_stepped _ joins _ _ _ t c.step_four-up.result 4 _ _ (omega arith) (omega arith)
    (four_stepped _ joins _ _ _ _ t 0 4 _ _ refl (omega arith) c.step_four-up.ensures (none_stepped _ g.met.S.Step.begins _ _ _))
    (rw (part_is t 4, part_is c.args.operand.now 4) at c.step_each-2.ensures)
