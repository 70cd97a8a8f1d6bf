-- `unlike::see_unlike` is right since an exact difference and the run of a column that fixes the answer both tell the sum; the run has no carry. Assumes nothing.
use Rattle.narrow.proofs.Passed.{top_high, unit_least, unit_most}
use Rattle.narrow.proofs.Tops.{run_passes, told}
use Rattle.narrow.proofs.unlike.see_unlike.Goals as goal

pub see_exact-requires : goal.see_exact-requires
see_exact-requires c = c.is_exact.ensures c.if-is_exact.true

pub overflow_sub-tops : goal.overflow_sub-tops
overflow_sub-tops c = top_high _ c.args.tops.facing.low

pub round_raised-r-requires : goal.round_raised-r-requires
round_raised-r-requires c =
    let t = c.args.tops in
    let found = c.in_ok-c.ensures in
    (rw found.1 at (run_passes t.precision t.pair t.first t.second t.facing _ found.0), unit_least _ t.facing.low, unit_most _ t.facing.high)

pub returns : goal.returns
returns c =
    let t = c.args.tops in
    let found = c.in_ok-c.ensures in
    let o = c.round_raised-r in
    told t.precision t.pair t.first t.second t.facing _ found.0 c.args.mode c.args.negative o.result.limb o.result.placed (rw found.1 o.ensures.placed_value) (rw found.1 o.ensures.limb_value)
