-- `regular::first_difference`: up to column k both read alike, and the next column decides which is larger. Assumes nothing.
use native.Mathlib.Numerals.{add-one}
use native.Mathlib.Omega.{arith}
use Rattle.checks.specs.Number.{operand_of}
use Rattle.general.proofs.RegularLevel.{level_start, next_told, next_same}
use Rattle.general.proofs.regular.first_difference.Goals as goal

pub loop-k-init : goal.loop-k-init
unfolding operand_of
loop-k-init c = level_start _ _ c.args.x.formed.limb c.args.y.formed.limb

pub returns-then-u-v : goal.returns-then-u-v
returns-then-u-v c =
    let l = c.loop-k in
    next_told l.k _ _ l.invariant _ _ c.column-u.ensures c.column-v.ensures (omega (arith, c.loop-k-test.true, c.max-k-end.ensures)) c.if-u-v.true

pub loop-k-preserved : goal.loop-k-preserved
loop-k-preserved c =
    let l = c.loop-k in
    rw (add-one l.k) (next_same l.k _ _ l.invariant _ _ c.column-u.ensures c.column-v.ensures (omega (arith, c.if-u-v.false)) (omega (arith, c.if-u-v.false)))
