-- `far::round` is right since both ways answer the same. Assumes nothing.
use Rattle.far.proofs.round.Goals as goal

pub round_kept-requires : goal.round_kept-requires
round_kept-requires c =
    let kept = c.is_kept.ensures c.if-is_kept.true in
    (c.requires, kept.0, kept.1)
