-- `doubles::convert_regular`: what is selected by the leading digits is judged. Assumes nothing.
use Rattle.checks.specs.Number.{operand_of}
use Rattle.select.proofs.Run.{limb_count}
use Rattle.doubles.proofs.convert_regular.Goals as goal

pub leading-a-requires : goal.leading-a-requires
unfolding operand_of
leading-a-requires c = limb_count _ c.args.x.formed c.args.x.regular
