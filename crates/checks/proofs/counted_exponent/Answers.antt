-- `checks::counted_exponent`: an i32 and 2 ^ 40 in 64 bits do not overflow, and their sum is the definition by cases on the sign. Assumes nothing.
use mathlib.Core.Path.{refl, ◌∙◌}
use mir.Facts.{to_z-of_z, sfits_widen}
use Rattle.checks.proofs.Signed.{sum_fits, sum_casts, sum_is, from_counted}
use Rattle.checks.proofs.counted_exponent.Goals as goal

pub overflow_cast-wide : goal.overflow_cast-wide
overflow_cast-wide c = rw (to_z-of_z c.ranges.e) (sfits_widen tt c.ranges.e)

pub overflow_add-above : goal.overflow_add-above
overflow_add-above c = sum_fits _ c.ranges.e refl refl

pub overflow_cast-result : goal.overflow_cast-result
overflow_cast-result c = sum_casts _ c.ranges.e refl refl

pub returns : goal.returns
returns c = sum_is _ c.ranges.e refl refl ∙ from_counted c.args.e
