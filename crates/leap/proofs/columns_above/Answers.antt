-- `leap::columns_above` is right since the limbs that meet the target are the first operand's columns. Assumes nothing.
use Rattle.leap.proofs.Leaping.{columns_stepped}
use Rattle.leap.proofs.columns_above.Goals as goal

pub returns : goal.returns
returns g c =
    columns_stepped _ c.args.k _ c.args.first.now _ _ (λ i. (c.type_inv.first i).fits) c.requires.0.columns c.columns_into.ensures g.S.Step.column _ _ c.step_from.ensures
