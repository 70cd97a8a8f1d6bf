-- `Fields::field`: a digit more each time; sixteen fit into 64 bits. Assumes nothing.
use Rattle.std.proofs.Common.{refl, arith}
use Rattle.vectors.specs.Fields.{field_of}
use Rattle.vectors.proofs.Digits.{field_longer, digit_fits, word_fits}
use Rattle.vectors.proofs.reading.Fields.field.Goals as goal

pub loop-i-init : goal.loop-i-init
unfolding field_of
loop-i-init c = (refl, omega arith)

pub overflow_mul-value : goal.overflow_mul-value
overflow_mul-value c = record { fits = omega (arith, word_fits c.loop-i.i c.loop-i.value (omega (arith, c.requires, c.loop-i-test.true)) c.loop-i.invariant.1) }

pub overflow_add-value : goal.overflow_add-value
overflow_add-value c = record { fits = omega (arith, c.digit_at.ensures.1, word_fits c.loop-i.i c.loop-i.value (omega (arith, c.requires, c.loop-i-test.true)) c.loop-i.invariant.1) }

pub loop-i-preserved : goal.loop-i-preserved
loop-i-preserved c = (rw (c.loop-i.invariant.0, c.digit_at.ensures.0) (field_longer c.args.self.now.rest.now c.loop-i.i), digit_fits _ _ _ c.loop-i.invariant.1 c.digit_at.ensures.1)
