-- `like::see_like` is right since the run of a column that fixes the answer is rounded to it; it has no guard, and begins with the carry or with the limb's first digit. Assumes nothing.
use Rattle.narrow.proofs.Passed.{top_high, unit_least, unit_most}
use Rattle.narrow.proofs.Tops.{run_passes, told}
use Rattle.narrow.proofs.like.see_like.Goals as goal

pub overflow_sub-tops : goal.overflow_sub-tops
overflow_sub-tops c = top_high _ c.args.tops.facing.low

pub round_carried-r-requires : goal.round_carried-r-requires
round_carried-r-requires c =
    let t = c.args.tops in
    let found = c.in_ok-c.ensures in
    (run_passes t.precision t.pair t.first t.second t.facing _ found.0, unit_least _ t.facing.low, unit_most _ t.facing.high, found.2, t.facing.most)

pub returns : goal.returns
returns c =
    let t = c.args.tops in
    let found = c.in_ok-c.ensures in
    let o = c.round_carried-r in
    told t.precision t.pair t.first t.second t.facing _ found.0 c.args.mode c.args.negative o.result.limb o.result.placed (rw found.1 o.ensures.placed_value) (rw found.1 o.ensures.limb_value)
