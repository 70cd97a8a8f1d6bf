-- `parts::trim` is right since the part from the lowest limb that is not 0 on is what `trimmed` keeps. Assumes nothing.
use Rattle.std.proofs.Common.{◌≡◌, arith}
use Rattle.parts.proofs.Trimming.{start_of, start_read, start_within, kept_at}
use Rattle.parts.proofs.trim.Goals as goal

pub returns : goal.returns
returns c =
    let s = c.args.s.now in
    let start : c.unwrap_or-start.result ≡ start_of s = start_read s _ _ _ c.lowest.ensures (omega arith) c.unwrap_or-start.ensures in
    kept_at s _ (omega (arith, start, start_within s))
