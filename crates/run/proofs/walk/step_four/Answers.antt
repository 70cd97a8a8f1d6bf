-- `run::step_four` is right since each limb takes the carry of the one before. Assumes nothing.
use Rattle.run.proofs.walk.step_four.Goals as goal

pub returns : goal.returns
returns g c = record {
  after_one = c.step_limb-up.new.target;
  after_two = c.step_limb-up-2.new.target;
  after_three = c.step_limb-up-3.new.target;
  carry_one = c.step_limb-up.result;
  carry_two = c.step_limb-up-2.result;
  carry_three = c.step_limb-up-3.result;
  lowest = c.step_limb-up.ensures;
  second = c.step_limb-up-2.ensures;
  third = c.step_limb-up-3.ensures;
  highest = c.step_limb.ensures;
}
