-- `descent::going::second_column` meets its contract: the definition tests the precision as the code does, and `walk::column` returns the column. Assumes nothing.
use mathlib.Core.Path.{◌≡◌}
use mathlib.Core.Bool.{cond}
use Prim.Native.Nat.{ℕ}
use borrow.Author.Tests.{eq-eqb, ne_eqb}
use lib.Dec.{eqb}
use Rattle.descent.proofs.going.second_column.Goals as goal

none : (n v : ℕ) → n ≡ 0 → 0 ≡ cond (eqb n 0) 0 v
none n v e = rw (eq-eqb n 0 e)

one : (n v r : ℕ) → (n ≡ 0 → ⊥) → r ≡ v → r ≡ cond (eqb n 0) 0 v
one n v r e f = rw (ne_eqb n 0 e) f

pub returns-then-pair-eq0 : goal.returns-then-pair-eq0
returns-then-pair-eq0 c = none _ _ c.if-pair-eq0.true

pub returns-else-pair-eq0 : goal.returns-else-pair-eq0
returns-else-pair-eq0 c = one _ _ _ c.if-pair-eq0.false c.column.ensures
