-- `aligned::few::subtract` is right since the difference is exact, a zero or digits that from the first on fill the target. Assumes nothing.
use mathlib.Core.Path.{sym, ◌∙◌}
use mathlib.Core.Bool.{true≢false}
use native.Mathlib.Omega.{arith}
use Rattle.aligned.proofs.AsFound.{top_modest, sign_is}
use Rattle.aligned.proofs.FewFound.{difference_some, lengths_told, few_cancels, columns_two, few_told}
use borrow.Author.Rules.{rules}
use Rattle.aligned.proofs.few.subtract.Goals as goal

pub is_low-requires : goal.is_low-requires
is_low-requires c = (top_modest _ _ _ _ c.requires.1 c.requires.3, omega (arith, c.requires.0.1))

pub difference-d-requires : goal.difference-d-requires
difference-d-requires c = lengths_told c.args.x.number c.args.x.limbs.now c.args.y.number c.args.y.limbs.now _ c.requires.0 c.requires.1

pub returns-then-d : goal.returns-then-d
returns-then-d c =
    let d = c.difference-d in
    let r = c.cancelled in
    let k = few_cancels c.args.x.number c.args.x.limbs.now c.args.y.number c.args.y.limbs.now _ c.requires.1 c.requires.2 d.result d.ensures c.if-d.true in
    (r.ensures.0, λ p room h l. r.ensures.1 p _ _ room k (sign_is c.args.x.number c.args.x.limbs.now) (sign_is c.args.y.number c.args.y.limbs.now))

pub normalize-r-requires : goal.normalize-r-requires
normalize-r-requires c =
    let d = c.difference-d.result in
    let top = top_modest _ _ _ _ c.requires.1 c.requires.3 in
    (difference_some d.high d.low c.if-d.false, λ e. absurd (true≢false (sym e)), columns_two _ _ _ _ c.requires.1 c.requires.3, omega arith)

pub returns : goal.returns
returns c =
    let calm = sym c.is_low.ensures ∙ c.if-is_low.false in
    let d = c.difference-d in
    let some = difference_some d.result.high d.result.low c.if-d.false in
    let r = c.normalize-r in
    let w = c.write in
    (w.ensures.0, few_told c.args.x.number c.args.x.limbs.now c.args.y.number c.args.y.limbs.now c.args.target.now c.args.top c.requires.1 c.requires.2 c.requires.3 d.result d.ensures some calm c.requires.0 r.result r.ensures (search rules) (search rules) _ w.ensures.0 (λ i. (c.type_inv.target i).fits) w.ensures.1 c.args.mode)
