-- `short::apart::round` is right since a little less than the larger is taken up to it again, or what fills the target is rounded. Assumes nothing.
use mathlib.Core.Path.{◌∙◌}
use native.Mathlib.Omega.{arith}
use Rattle.short.proofs.FarSum.{alone_worth, restored_left}
use Rattle.short.proofs.apart.round.Goals as goal

pub returns-then-is_restored : goal.returns-then-is_restored
returns-then-is_restored c =
    let w = c.write in
    let k = c.is_restored.ensures c.if-is_restored.true in (
      w.ensures.0,
      λ v x y h sign.
          restored_left c.args.p _ c.args.u v _ c.requires.0 c.requires.1 c.requires.3 c.args.mode x y h _ w.ensures.0 (λ j. (c.type_inv.target j).fits)
          (w.ensures.1 ∙ alone_worth c.args.u _ (omega (arith, c.requires.1))) k.0 c.args.negative sign (λ t. c.round_below.ensures c.args.mode c.args.p _ t k.1),
    )
