-- `short::apart::fill` is right since the larger stands alone in the target, or one less than it. Assumes nothing.
use mathlib.Core.Path.{refl, ◌∙◌}
use native.Mathlib.Omega.{arith}
use Rattle.short.proofs.FarSum.{alone_worth, far_beside}
use Rattle.short.proofs.apart.fill.Goals as goal

pub returns : goal.returns
returns c =
    let w = c.write in
    let b = c.beside-guard in
    let size = b.ensures.size ∙ w.ensures.0 in
    (size, refl, λ v o x y h. far_beside c.args.p _ c.args.u v _ c.requires.0 c.requires.1 c.requires.2 o x y h _ size (λ i. (c.type_inv.target i).fits) _ _ (w.ensures.1 ∙ alone_worth c.args.u _ (omega (arith, c.requires.1))) b.ensures)
