-- `report::refused` is the refused sum, field by field. Assumes nothing.
use mathlib.Core.Path.{refl}
use Rattle.reports.specs.Summed.{refused_sum}
use Rattle.reports.proofs.report.refused.Goals as goal

pub returns : goal.returns
unfolding refused_sum
returns c = refl
