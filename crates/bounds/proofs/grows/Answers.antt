-- `bounds::grows`: by whether there are enough digits, as the definition.
use mathlib.Core.Path.{sym, ◌∙◌}
use Rattle.lean.proofs.Plus.{digits_read}
use Rattle.bounds.proofs.Ranges.{grown, grown_short}
use Rattle.bounds.proofs.grows.Goals as goal

pub returns-then-enough : goal.returns-then-enough
returns-then-enough c = λ D s t o f. let e = sym (c.enough.ensures _ D t) ∙ c.if-enough.true in grown _ _ _ _ e (c.carries.ensures _ D t (digits_read _ _ D e) (o.long (digits_read _ _ D e)))

pub returns-else-enough : goal.returns-else-enough
returns-else-enough c = λ D s t o f. let e = sym (c.enough.ensures _ D t) ∙ c.if-enough.false in grown_short _ _ _ _ e (f e)
