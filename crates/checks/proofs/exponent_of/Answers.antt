-- `checks::exponent_of`: between the two tests the difference fits 32 bits, and it is the definition's. Assumes nothing.
use native.Mathlib.Omega.{arith}
use mir.Facts.{to_z-of_z, sfits_widen}
use Rattle.checks.proofs.Signed.{counted_less, exponent_fits, exponent_back, exponent_below, exponent_above}
use Rattle.checks.proofs.exponent_of.Goals as goal

pub returns-then-c-lt1097364144128 : goal.returns-then-c-lt1097364144128
returns-then-c-lt1097364144128 c = exponent_below _ c.if-c-lt1097364144128.true

pub returns-then-c-gt1101659111423 : goal.returns-then-c-gt1101659111423
returns-then-c-gt1101659111423 c = exponent_above _ c.if-c-gt1101659111423.true

pub overflow_sub-e : goal.overflow_sub-e
overflow_sub-e c = rw (counted_less c.args.c (omega arith)) (sfits_widen tt (exponent_fits c.args.c c.if-c-lt1097364144128.false c.if-c-gt1101659111423.false))

pub overflow_cast-result : goal.overflow_cast-result
overflow_cast-result c = let f = exponent_fits c.args.c c.if-c-lt1097364144128.false c.if-c-gt1101659111423.false in rw (counted_less c.args.c (omega arith), to_z-of_z (sfits_widen tt f)) f

pub returns : goal.returns
returns c = exponent_back c.args.c c.if-c-lt1097364144128.false c.if-c-gt1101659111423.false
