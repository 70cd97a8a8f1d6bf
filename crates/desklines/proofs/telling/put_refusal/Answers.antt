-- `desklines::put_refusal`: ee, number and place, and LF, one behind the other. Assumes nothing.
use mathlib.Core.Path.{ap}
use native.Mathlib.Omega.{arith}
use Rattle.desklines.specs.declared.telling.Numbered.{Numbered}
use Rattle.desklines.proofs.Tellings.{refusal_fits, refusal_told}
use Rattle.desklines.proofs.telling.put_refusal.Goals as goal

pub put-a-requires : goal.put-a-requires
put-a-requires g c = omega (arith, refusal_fits)

pub put-b-requires : goal.put-b-requires
put-b-requires g c = omega (arith, refusal_fits, c.put-a.ensures.0, c.put-a.auto.out, c.requires)

pub put-c-requires : goal.put-c-requires
put-c-requires g c = omega (arith, refusal_fits, c.put-b.ensures.0, c.put-b.auto.out, c.put-a.ensures.0, c.put-a.auto.out, c.requires)

pub put_end-requires : goal.put_end-requires
put_end-requires g c = omega (arith, refusal_fits, c.put-c.ensures.0, c.put-c.auto.out, c.put-b.ensures.0, c.put-b.auto.out, c.put-a.ensures.0, c.put-a.auto.out, c.requires)

pub returns : goal.returns
returns g c =
    let e = c.as_numbered-numbers.ensures in
    refusal_told _ c.args.out.now _ _ _ _ _ _ _ _ _ _ (ap (λ (n : Numbered). n.rule) e) (ap (λ (n : Numbered). n.place) e) c.put-a.ensures c.put-b.ensures c.put-c.ensures c.put_end.ensures
