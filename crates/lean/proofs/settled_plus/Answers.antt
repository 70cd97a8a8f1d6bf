-- `settle::settled_plus`: both ends keep the same digits unless the rest is all ones and the greatest is a unit on; then they round alike where they lean alike.
use mathlib.Core.Path.{sym, ◌∙◌}
use Rattle.lean.proofs.Flags.{alike_same}
use Rattle.lean.proofs.Plus.{too_few, plus_ones, plus_next, plus_same}
use Rattle.lean.proofs.settled_plus.Goals as goal

pub returns-then-not-enough : goal.returns-then-not-enough
returns-then-not-enough c = λ p D t. sym (too_few _ p D _ _ _ (sym (c.enough.ensures p D t) ∙ c.if-not-enough.true))

pub returns-then-x : goal.returns-then-x
returns-then-x c = λ p D t. plus_ones _ p D _ t _ _ _ (sym (c.enough.ensures p D t) ∙ c.if-not-enough.false) c.if-next.true c.if-x.true

pub returns-then-next : goal.returns-then-next
returns-then-next c = λ p D t.
    let n = c.next_rest.ensures in
    c.eq.ensures ∙ alike_same c.leans-low.result c.leans.result
    ∙ plus_next _ p D _ t _ _ _ (sym (c.enough.ensures p D t) ∙ c.if-not-enough.false) c.if-next.true c.if-x.false _ _ c.leans-low.ensures (rw (n.0, n.1, n.2, n.3) at c.leans.ensures)

pub returns : goal.returns
returns c = λ p D t.
    c.eq-2.ensures ∙ alike_same c.leans-low.result c.leans-2.result
    ∙ plus_same _ p D _ t _ _ _ (sym (c.enough.ensures p D t) ∙ c.if-not-enough.false) c.if-next.false _ _ c.leans-low.ensures c.leans-2.ensures
