-- `checks::turn_sign`: the fields are those of the definition. Assumes nothing.
use Rattle.checks.specs.Number.{turned_number}
use borrow.Author.Rules.{rules}
use Rattle.checks.proofs.turn_sign.Goals as goal

pub returns : goal.returns
unfolding turned_number
returns c = search rules
