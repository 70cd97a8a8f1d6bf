-- `doubles::enclose_regular`: both ends are judged of one reading of the leading digits. Assumes nothing.
use Rattle.checks.specs.Number.{operand_of}
use Rattle.select.proofs.Run.{limb_count}
use Rattle.doubles.proofs.Cases.{paired_ends}
use Rattle.doubles.proofs.enclose_regular.Goals as goal

pub leading-a-requires : goal.leading-a-requires
unfolding operand_of
leading-a-requires c = limb_count _ c.args.x.formed c.args.x.regular

pub returns : goal.returns
returns c = paired_ends _ _ _ _ c.judged-down.ensures c.judged-up.ensures c.pair_of.ensures
