-- `place::beside::round_below` is right since more than half of the last digit lies below the next number: the way up leads back to it.
-- Assumes nothing.
use mathlib.Core.Path.{◌∙◌}
use mir.Facts.{to_z-of_z}
use mir.Syntax.{w8}
use Rattle.place.proofs.Around.{below_placed}
use Rattle.place.proofs.beside.round_below.Goals as goal

pub returns : goal.returns
returns c =
    let g = c.args in
    λ mode p t h e. below_placed p g.exponent t h mode g.negative e _ (to_z-of_z {w = w8} (record { sfits = c.ternary.type_inv }) ∙ c.ternary.ensures)
