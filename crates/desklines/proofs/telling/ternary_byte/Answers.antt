-- `desklines::ternary_byte`: by the sign. Assumes nothing.
use mir.Facts.{to_z-of_z}
use Rattle.desklines.proofs.Tellings.{below_zero, above_zero, just_zero}
use Rattle.desklines.proofs.telling.ternary_byte.Goals as goal

pub returns-then-t-lt0 : goal.returns-then-t-lt0
returns-then-t-lt0 c = below_zero c.args.t (rw (to_z-of_z c.ranges.t) at c.if-t-lt0.true)

pub returns-then-t-gt0 : goal.returns-then-t-gt0
returns-then-t-gt0 c = above_zero c.args.t (rw (to_z-of_z c.ranges.t) at c.if-t-gt0.true)

pub returns : goal.returns
returns c = just_zero c.args.t (rw (to_z-of_z c.ranges.t) at c.if-t-lt0.false) (rw (to_z-of_z c.ranges.t) at c.if-t-gt0.false)
