-- `ways::is_aligned`: all tests hold. Assumes nothing.
use Rattle.ways.proofs.Chosen.{aligned_told}
use Rattle.ways.proofs.is_aligned.Goals as goal

pub returns : goal.returns
returns c = aligned_told c.args.x.exponent c.args.y.exponent c.args.m c.args.k c.args.n (record { sfits = c.struct_told-1.given.1.1.1.0.1 }) (record { sfits = c.struct_told-2-1.given.1.1.1.0.1 })
