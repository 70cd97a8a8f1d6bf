-- `wide::fill_first` is right since the columns of one operand carry nothing out. Assumes nothing.
use Rattle.wide.proofs.InHollow.{first_fills}
use Rattle.wide.proofs.hollow.fill_first.Goals as goal

pub returns : goal.returns
returns c =
    (c.leap_single.ensures.same_length, first_fills c.args.first.now c.args.target.now c.requires (λ i. (c.type_inv.first i).fits) _ _ c.leap_single.ensures)
