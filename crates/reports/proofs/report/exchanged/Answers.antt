-- `report::exchanged` gives every field as it was, the two counts in each other's place. Assumes nothing.
use borrow.Author.Rules.{rules}
use Rattle.reports.specs.Exchanged.{exchanged_sum}
use Rattle.reports.proofs.report.exchanged.Goals as goal

pub returns : goal.returns
unfolding exchanged_sum
returns c = search rules
