-- `narrow::is_exact` is right since its tests are what is asked. Assumes nothing.
use mathlib.Core.Path.{sym}
use mathlib.Core.Bool.{true≢false}
use borrow.Author.Tests.{leb-true}
use Rattle.narrow.proofs.Settled.{sums_fit}
use Rattle.limb.proofs.Tests.{both_true}
use Rattle.narrow.proofs.seeing.is_exact.Goals as goal

pub returns-then-pair : goal.returns-then-pair
returns-then-pair c = λ e. absurd (true≢false (sym e))

pub overflow_add-result : goal.overflow_add-result
overflow_add-result c = record { fits = sums_fit _ _ _ c.args.tops.facing }

pub returns : goal.returns
returns c = λ e. let t = both_true _ _ e in record { unlike = c.if-pair.false; first = leb-true _ _ t.0; second = leb-true _ _ t.1 }
