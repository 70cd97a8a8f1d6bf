-- `aligned::round_whole` is right since what stands in the target is rounded once. Assumes nothing.
use mathlib.Core.Path.{refl}
use Rattle.aligned.proofs.Whole.{told}
use Rattle.aligned.proofs.round_whole.Goals as goal

pub returns : goal.returns
returns c = rw c.by_fields.ensures ((c.round_fit-placed.auto.target, refl, λ x y h e. told c.args.mode c.args.p x y c.args.target.now c.args.carry c.args.skipped c.args.top h c.args.negative e c.round_fit-placed.ensures.value c.round_fit-placed.ensures.target_after))
