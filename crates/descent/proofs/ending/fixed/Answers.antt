-- `descent::ending::fixed`: the run in the target is D as far as its digits matter, moved up or cut, and what is cut off counts as more. Assumes nothing.
use Rattle.descent.proofs.Finishing.{fixed_left}
use Rattle.descent.proofs.ending.fixed.Goals as goal

pub returns : goal.returns
returns c =
    let a = c.args in
    fixed_left a.mode a.p a.top a.negative a.w a.target.now _ c.requires c.clear_low.ensures (λ i. (c.slice_known-2-1.given i).fits) _ c.holds_more-deep.ensures a.more (rw c.unwrap_or-guard.ensures at c.round_run.ensures.value) (rw c.unwrap_or-guard.ensures at c.round_run.ensures.target_after)
