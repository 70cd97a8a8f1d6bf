-- `wide::is_inside` is right since the digits of a full target below the first p stand in its lowest limb. Assumes nothing.
use mathlib.Core.Path.{sym}
use mathlib.Core.Bool.{true≢false}
use Rattle.descent.proofs.JudgingRange.{limbs_few}
use Rattle.descent.proofs.GoingDown.{room_some}
use Rattle.descent.proofs.Inside.{inside_told}
use Rattle.wide.proofs.exactly.is_inside.Goals as goal

pub digits_in-digits-requires : goal.digits_in-digits-requires
digits_in-digits-requires c = (room_some _ _ c.requires, limbs_few _ _ c.requires)

pub returns-then-digits-p : goal.returns-then-digits-p
returns-then-digits-p c = λ e. absurd (true≢false (sym e))

pub returns-then-drop-gt64 : goal.returns-then-drop-gt64
returns-then-drop-gt64 c = λ e. absurd (true≢false (sym e))

pub bounds-target-0 : goal.bounds-target-0
bounds-target-0 c = room_some _ _ c.requires

pub returns : goal.returns
returns c = λ e w d f. inside_told _ _ _ _ f (c.digits_in-digits.ensures w d f) c.if-digits-p.false c.if-drop-gt64.false (c.lies_inside.ensures e)
