-- `short::apart::add_apart` is right since one column fixes the answer, and it is rounded. Assumes nothing.
use Rattle.short.proofs.FarSum.{apart_told}
use Rattle.short.proofs.apart.add_apart.Goals as goal

pub returns : goal.returns
returns c = rw c.by_fields.ensures (
    let r = c.round-placed in (
      r.ensures.0,
      λ v z w h sign. apart_told c.args.p _ c.args.u v _ c.requires.0 c.requires.1 c.requires.3 _ z w h c.args.negative sign c.args.swapped (r.ensures.1 v z w h sign) c.one.ensures c.one-2.ensures,
    ))
