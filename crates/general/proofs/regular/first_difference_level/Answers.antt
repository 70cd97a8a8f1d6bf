-- `regular::first_difference_level`: the columns passed read alike, and the next limb of each run is its next column. Assumes nothing.
use native.Mathlib.Omega.{arith}
use Rattle.checks.specs.Number.{operand_of, fetched}
use Rattle.general.proofs.RegularLevel.{alike_start, alike_told, alike_next, alike_end}
use Rattle.general.proofs.regular.first_difference_level.Goals as goal

pub loop-i-init : goal.loop-i-init
unfolding operand_of
loop-i-init c = alike_start _ _ c.args.x.formed.limb c.args.y.formed.limb

pub returns-then-u-v : goal.returns-then-u-v
unfolding operand_of fetched
returns-then-u-v c =
    let l = c.loop-i in
    alike_told _ _ c.requires c.args.x.formed.limb c.args.y.formed.limb l.i c.loop-i-test.true l.auto.i l.invariant _ _ c.fetch-u.ensures c.fetch-v.ensures c.if-u-v.true

pub loop-i-preserved : goal.loop-i-preserved
unfolding operand_of fetched
loop-i-preserved c =
    let l = c.loop-i in
    alike_next _ _ c.requires c.args.x.formed.limb c.args.y.formed.limb l.i c.loop-i-test.true l.auto.i l.invariant _ _ c.fetch-u.ensures c.fetch-v.ensures c.if-u-v.false

pub returns : goal.returns
returns c =
    alike_end _ _ _ c.requires (omega (arith, c.loop-i-test.false)) c.loop-i.invariant
