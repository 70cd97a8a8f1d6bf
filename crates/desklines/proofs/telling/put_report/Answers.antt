-- `desklines::put_report`: each part behind the one before. Assumes nothing.
use mir.Facts.{to_z-of_z}
use mir.Syntax.{w8}
use mir.Val.{SFits}
use native.Mathlib.Omega.{arith}
use Rattle.desklines.proofs.Tellings.{report_is, report_told}
use Rattle.desklines.proofs.telling.put_report.Goals as goal

pub put-a-requires : goal.put-a-requires
put-a-requires c = omega (arith, report_is, c.requires)

pub put-b-requires : goal.put-b-requires
put-b-requires c = omega (arith, report_is, c.put-a.ensures.0, c.put-a.auto.out, c.requires)

pub put-c-requires : goal.put-c-requires
put-c-requires c = omega (arith, report_is, c.put-b.ensures.0, c.put-b.auto.out, c.put-a.ensures.0, c.put-a.auto.out, c.requires)

pub put-d-requires : goal.put-d-requires
put-d-requires c = omega (arith, report_is, c.put-c.ensures.0, c.put-c.auto.out, c.put-b.ensures.0, c.put-b.auto.out, c.put-a.ensures.0, c.put-a.auto.out, c.requires)

pub put_end-requires : goal.put_end-requires
put_end-requires c = omega (arith, report_is, c.put-d.ensures.0, c.put-d.auto.out, c.put-c.ensures.0, c.put-c.auto.out, c.put-b.ensures.0, c.put-b.auto.out, c.put-a.ensures.0, c.put-a.auto.out, c.requires)

pub returns : goal.returns
returns c =
    let g = c.args in
    let f : SFits w8 g.rounded.ternary = record { sfits = c.struct_told-1.given.1.0.1 } in
    report_told g.s g.rounded.ternary g.at _ g.out.now _ _ _ _ _ _ _ _ _ _ (rw (to_z-of_z f) at c.ternary_byte.ensures) c.put-a.ensures c.put-b.ensures c.put-c.ensures c.put-d.ensures c.put_end.ensures
