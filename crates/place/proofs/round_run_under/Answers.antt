-- `place::round_run_under` is right since the rules decide whether the run is rounded, and `round_fit` rounds it. Assumes nothing.
use mathlib.Core.Path.{sym}
use Rattle.place.specs.Rounded.{refused_by}
use Rattle.place.proofs.Answer.{placed_refused, limbs_refused}
use Rattle.place.proofs.round_run_under.Goals as goal

pub returns-then-rule-ne0 : goal.returns-then-rule-ne0
unfolding refused_by
returns-then-rule-ne0 c =
    let g = c.args in
    let rule = c.run_rule-rule.result in
    let e = c.run_rule-rule.ensures in
    record {
      value = sym (placed_refused g.mode g.precision g.negative g.unit g.carry g.target.now g.guard g.more rule e c.if-rule-ne0.true);
      target_after = sym (limbs_refused g.mode g.precision g.negative g.unit g.carry g.target.now g.guard g.more rule e c.if-rule-ne0.true);
    }
