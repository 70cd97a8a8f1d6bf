-- `leap::guarded::columns_on` is right since the columns before the guard take up what the guard carries or borrows. Assumes nothing.
use Rattle.leap.proofs.Guarding.{guard_below}
use Rattle.leap.proofs.guarded.columns_on.Goals as goal

pub returns : goal.returns
returns g c = (
  c.columns_above-carry.ensures.size,
  guard_below g.S.Step.column g.met.S.Step.joins c.args.gap c.args.k c.args.first.now c.args.second.now c.args.target.now _ (λ i. (c.type_inv.first i).fits) (λ i. (c.type_inv.second i).fits)
      c.requires.0 _ _ _ (rw (c.column-a.ensures, c.column-b.ensures) at c.limb-s.ensures) c.columns_above-carry.ensures,
)
