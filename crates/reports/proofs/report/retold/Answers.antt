-- `report::retold` gives every field as it was. Assumes nothing.
use Rattle.std.proofs.Common.{refl, ◌∙◌}
use Rattle.reports.specs.Summed.{refused_sum}
use Rattle.reports.proofs.report.retold.Goals as goal

pub returns-in-Err : goal.returns-in-Err
unfolding refused_sum
returns-in-Err c = c.refused.ensures ∙ rw (← c.in-Err.is) refl
