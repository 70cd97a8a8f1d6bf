-- `descent::ending::hole`: the second operand lies below all that is read, so the sum is the run with a little more or a little less. Assumes nothing.
use mathlib.Core.Path.{refl}
use Rattle.descent.proofs.Finishing.{hole_ready, hole_more_left, hole_less_left}
use Rattle.descent.proofs.ending.hole.Goals as goal

pub returns-then-pair-deep : goal.returns-then-pair-deep
returns-then-pair-deep c =
    let a = c.args in
    hole_more_left a.mode a.p a.pair.top a.negative a.w a.target.now _ c.requires c.clear_low.ensures (λ i. (c.slice_known-2-1.given i).fits) _ c.holds_more-deep.ensures a.pair refl _ c.hole_mode-by.ensures c.if-pair-deep.true (rw c.unwrap_or-guard.ensures at c.round_run.ensures.value) (rw c.unwrap_or-guard.ensures at c.round_run.ensures.target_after)

pub less-requires : goal.less-requires
less-requires c =
    let a = c.args in
    hole_ready a.mode a.p a.pair.top a.negative a.w a.target.now _ c.requires c.clear_low.ensures (λ i. (c.slice_known-2-1.given i).fits) _ c.holds_more-deep.ensures

pub returns : goal.returns
returns c =
    let a = c.args in
    hole_less_left a.mode a.p a.pair.top a.negative a.w a.target.now _ c.requires c.clear_low.ensures (λ i. (c.slice_known-2-1.given i).fits) _ c.holds_more-deep.ensures a.pair refl _ c.hole_mode-by.ensures c.if-pair-deep.false (rw c.unwrap_or-guard.ensures at c.less.ensures)
