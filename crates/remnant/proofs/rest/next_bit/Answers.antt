-- `remnant::rest::next_bit` is right since the limb above the lowest is even or odd with all that stands above it. Assumes nothing.
use Rattle.remnant.proofs.Dropping.{next_in_limb, next_in_carry}
use Rattle.remnant.proofs.rest.next_bit.Goals as goal

pub returns-then-target-gt1 : goal.returns-then-target-gt1
returns-then-target-gt1 c = next_in_limb c.args.w c.args.target.now c.if-target-gt1.true

pub returns-else-target-gt1 : goal.returns-else-target-gt1
returns-else-target-gt1 c = next_in_carry c.args.w c.args.target.now c.if-target-gt1.false
