-- `descent::ending::less`: one is taken off the guard, or off the target with a guard of all ones left. Assumes nothing.
use Rattle.descent.proofs.Finishing.{less_guard, less_fall}
use Rattle.descent.proofs.ending.less.Goals as goal

pub returns-then-guard-ne0 : goal.returns-then-guard-ne0
returns-then-guard-ne0 c =
    let a = c.args in
    less_guard a.mode a.p a.unit a.negative a.carry a.target.now c.requires.0 c.requires.1 c.requires.2 a.guard c.if-guard-ne0.true c.ranges.guard.fits (λ i. (c.slice_known-1.given i).fits) c.round_run.ensures.value c.round_run.ensures.target_after

pub returns : goal.returns
returns c =
    let a = c.args in
    less_fall a.mode a.p a.unit a.negative a.carry a.target.now c.requires.0 c.requires.1 c.requires.2 a.guard c.if-guard-ne0.false _ _ c.change_from-borrow.ensures (λ i. (c.slice_known-2-1.given i).fits) c.round_run-2.ensures.value c.round_run-2.ensures.target_after
