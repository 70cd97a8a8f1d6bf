-- `regular::cancelled`: what is alike in all columns cancels, and the sum is a zero. Assumes nothing.
use Rattle.general.proofs.RegularLevel.{alike_few, alike_reported}
use Rattle.general.proofs.regular.cancelled.Goals as goal

pub used-requires : goal.used-requires
used-requires c = alike_few _ _ _ _ _ _ c.requires.2 c.requires.0 _ c.max-k.ensures c.requires.1

pub used-requires-2 : goal.used-requires-2
used-requires-2 c = alike_few _ _ _ _ _ _ c.requires.2 c.requires.0 _ c.max-k.ensures c.requires.1

pub returns : goal.returns
returns c = alike_reported _ _ _ _ _ _ c.requires.2 c.requires.0 _ c.max-k.ensures c.requires.1 c.args.mode c.clear.ensures c.zero_sign.ensures c.used.ensures c.used-2.ensures c.zero.ensures
