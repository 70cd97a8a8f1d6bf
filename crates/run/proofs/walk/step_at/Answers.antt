-- `run::step_at` is right since the part from the start on is worked on alone and put back over the limbs below it. Assumes nothing.
use Rattle.std.proofs.Common.{◌≡◌, [], drop, refl, arith}
use lib.ListN.{drop_of_length-le}
use Rattle.run.proofs.Stepping.{nothing_stepped, part_stepped}
use Rattle.run.proofs.walk.step_at.Goals as goal

pub returns-then-start-target : goal.returns-then-start-target
returns-then-start-target g c =
    part_stepped _ c.args.start c.args.target.now c.args.operand.now c.args.carry c.step_into.new.target c.step_into.result (omega arith) c.step_into.ensures

pub returns-else-start-target : goal.returns-else-start-target
returns-else-start-target g c =
    let none : drop c.args.start c.args.target.now ≡ [] = drop_of_length-le c.args.target.now c.if-start-target.false in
    record { below = refl; part = rw none (nothing_stepped g.S.Step.column g.met.S.Step.begins c.args.operand.now c.args.carry) }
