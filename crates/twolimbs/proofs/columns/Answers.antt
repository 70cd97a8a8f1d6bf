-- `twolimbs::columns` is right since what leaves the limb below is the second column. Assumes nothing.
use Rattle.twolimbs.proofs.TwoLimbs.{columns_are, columns_even}
use Rattle.twolimbs.proofs.columns.Goals as goal

pub returns : goal.returns
returns c = (columns_are c.args.limb c.args.gap c.requires, columns_even c.args.limb c.args.gap c.requires)
