-- `shifts::moved` is right since the two shifted limbs share no bit. Assumes nothing.
use Rattle.std.proofs.Common.{rules}
use Rattle.shifts.proofs.Windows.{moved_bits}
use Rattle.shifts.proofs.moved.Goals as goal

pub returns : goal.returns
returns c =
    let g = c.args in
    moved_bits g.low g.high g.bits c.requires.1 (search rules) (search rules)
