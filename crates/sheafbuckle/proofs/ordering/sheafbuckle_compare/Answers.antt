-- `ordering::sheafbuckle_compare`: two regular numbers are ordered by their signs, by their exponents or by as many limbs, and all others by the kernel's own. Assumes nothing.
use mathlib.Core.Path.{sym, ap, ◌∙◌}
use mathlib.Core.Bool.{beq}
use mir.Syntax.{w32}
use mir.Val.{SFits, of_z}
use borrow.Author.Tests.{not-true, not-false}
use Rattle.order.proofs.Exponents.{read_same}
use Rattle.sheafbuckle.proofs.Quick.{exponent_said, apart_told, alike_told}
use Rattle.sheafbuckle.proofs.ordering.sheafbuckle_compare.Goals as goal

pub returns-then-x-y : goal.returns-then-x-y
returns-then-x-y c =
    apart_told _ _ _ _ (c.are_regular.ensures c.if-are_regular.true) (λ i. (c.type_inv.xl i).fits) (λ i. (c.type_inv.yl i).fits) _ _ c.from.ensures c.from-then-x-y.ensures _ _ (not-true (beq c.args.x.negative c.args.y.negative) c.if-x-y.true) c.order_apart.ensures c.told.ensures

pub order_exponents-requires : goal.order_exponents-requires
order_exponents-requires c e =
    c.if-x-y-2.true (ap (of_z w32) (sym (exponent_said _ _ c.from-then-x-y-2.ensures) ∙ e ∙ exponent_said _ _ c.from-then-x-y-2-2.ensures))

pub returns-then-x-y-2 : goal.returns-then-x-y-2
returns-then-x-y-2 c =
    alike_told _ _ _ _ (c.are_regular.ensures c.if-are_regular.true) (λ i. (c.type_inv.xl i).fits) (λ i. (c.type_inv.yl i).fits) _ _ c.from-then-x-y-2.ensures c.from-then-x-y-2-2.ensures _ _ (not-false (beq c.args.x.negative c.args.y.negative) c.if-x-y.false) (c.order_exponents.ensures _ _) c.told-then-x-y-2.ensures

pub order_level-requires : goal.order_level-requires
order_level-requires c =
    let first_fits : SFits w32 c.args.x.exponent = record { sfits = c.struct_told-1.given.1.0.1 } in
    let second_fits : SFits w32 c.args.y.exponent = record { sfits = c.struct_told-then-are_regular-1.given.1.0.1 } in
    (exponent_said _ _ c.from-then-xl-yl.ensures ∙ read_same _ _ first_fits second_fits c.if-x-y-2.false ∙ sym (exponent_said _ _ c.from-then-xl-yl-2.ensures), c.if-xl-yl.true)

pub returns-then-xl-yl : goal.returns-then-xl-yl
returns-then-xl-yl c =
    alike_told _ _ _ _ (c.are_regular.ensures c.if-are_regular.true) (λ i. (c.type_inv.xl i).fits) (λ i. (c.type_inv.yl i).fits) _ _ c.from-then-xl-yl.ensures c.from-then-xl-yl-2.ensures _ _ (not-false (beq c.args.x.negative c.args.y.negative) c.if-x-y.false) c.order_level.ensures c.told-then-xl-yl.ensures

pub returns-then-are_regular : goal.returns-then-are_regular
returns-then-are_regular c = c.retold.ensures ∙ c.compare_any.ensures

pub returns : goal.returns
returns c = c.retold-2.ensures ∙ c.compare_any-2.ensures
