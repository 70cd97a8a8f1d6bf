-- `desklines::put_result`: a number of good form is written, and the report comes behind it. Assumes nothing.
use native.Mathlib.Omega.{arith}
use Rattle.desklines.proofs.Tellings.{never_refused, count_fits, sum_told}
use Rattle.desklines.proofs.telling.put_result.Goals as goal

pub put_report-requires : goal.put_report-requires
put_report-requires c = omega (arith, count_fits c.args.s c.args.rounded c.args.limbs.now c.args.out.now c.requires.1 c.requires.0 _ c.in-Ok.ensures.value, c.write_line.auto.room)

pub returns-in-Ok : goal.returns-in-Ok
returns-in-Ok c = sum_told c.args.s c.args.rounded c.args.limbs.now c.args.out.now c.requires.1 c.requires.0 _ _ _ _ c.in-Ok.ensures.value c.in-Ok.ensures.room_after c.put_report.ensures

pub put_refusal-requires : goal.put_refusal-requires
put_refusal-requires c = absurd (never_refused c.args.s c.args.rounded c.args.limbs.now c.args.out.now c.requires.1 c.requires.0 _ c.in-Err.ensures.value)

pub returns-in-Err : goal.returns-in-Err
returns-in-Err c = absurd (never_refused c.args.s c.args.rounded c.args.limbs.now c.args.out.now c.requires.1 c.requires.0 _ c.in-Err.ensures.value)
