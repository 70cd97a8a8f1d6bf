-- `wide::fill_hollow` is right since a little more than the first operand, or a little less, rounds as the second does whatever stands in it. Assumes nothing.
use mathlib.Core.Path.{◌∙◌}
use native.Mathlib.Omega.{arith}
use Rattle.wide.proofs.Offering.{offered}
use Rattle.wide.proofs.FullTarget.{offered_sighted}
use Rattle.wide.proofs.InHollow.{sum_fits, covers, hollow_rounds}
use Rattle.wide.proofs.hollow.fill_hollow.Goals as goal

pub overflow_add-p : goal.overflow_add-p
overflow_add-p c = omega (arith, sum_fits _ _ c.requires.0)

pub is_prompt-requires : goal.is_prompt-requires
is_prompt-requires c =
    offered_sighted c.args.p _ c.args.order.now.first.now c.args.order.now.second.now (offered c.args.order.now) c.args.target.now c.requires.0

pub fill_first-requires : goal.fill_first-requires
fill_first-requires c =
    covers _ _ _ _ (offered_sighted c.args.p _ c.args.order.now.first.now c.args.order.now.second.now (offered c.args.order.now) c.args.target.now c.requires.0) (c.is_prompt.ensures (c.if-not-is_prompt.false))

pub returns : goal.returns
returns c =
    let size = c.beside-guard.ensures.size ∙ c.fill_first.ensures.0 in
    (size, λ o x y h. hollow_rounds c.args.p _ c.args.order.now.first.now c.args.order.now.second.now c.args.target.now _ c.requires.0 c.requires.1 c.if-pair-p.false (c.is_prompt.ensures (c.if-not-is_prompt.false)) size (λ i. (c.type_inv.target i).fits) o x y h _ _ c.fill_first.ensures.1 c.beside-guard.ensures)
