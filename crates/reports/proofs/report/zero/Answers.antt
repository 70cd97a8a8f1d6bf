-- `report::zero` is the zero of a sign as a sum reports it, field by field. Assumes nothing.
use mathlib.Core.Path.{refl}
use Rattle.reports.specs.Summed.{sum_of}
use Rattle.reports.proofs.report.zero.Goals as goal

pub returns : goal.returns
unfolding sum_of
returns c = refl
