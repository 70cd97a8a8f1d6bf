-- `aligned::settle_whole` is right since what stands in the target is rounded once, and all modes agree. Assumes nothing.
use mathlib.Core.Path.{refl}
use mathlib.Core.Bool.{false}
use Rattle.aligned.proofs.Whole.{told}
use Rattle.aligned.proofs.settle_whole.Goals as goal

pub returns : goal.returns
returns c = rw c.by_fields.ensures (
    let g = c.args in
    let r = c.round_exact-placed in
    (c.round_exact-placed.auto.target, refl, λ mode x y h e. told mode g.p x y g.target.now false g.skipped g.top h g.negative e (r.ensures.by_index mode g.negative) (r.ensures.by_index_2 mode g.negative)))
