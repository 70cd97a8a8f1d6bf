-- `aligned::attempt_under` is right since all that there is of a sum of like signs stands in the target with its carry, and of unlike signs the two are subtracted. Assumes nothing.
use mathlib.Core.Path.{◌≡◌, sym, ◌∙◌}
use borrow.Author.Rules.{rules}
use Rattle.numbers.specs.Limits.{counted}
use Rattle.descent.proofs.AtOnce.{not_true}
use Rattle.aligned.proofs.Whole.{asks}
use Rattle.aligned.proofs.AsFound.{level_held, exponent_told, top_modest, sum_stands, sign_is, unlike_is}
use Rattle.aligned.proofs.attempt_under.Goals as goal

pub subtract_any-requires : goal.subtract_any-requires
subtract_any-requires c =
    let counts : c.counted_exponent-top.result ≡ counted c.args.x.number.exponent = search rules in
    let top = exponent_told c.args.x.number c.args.x.limbs.now _ counts in
    (c.requires.3, level_held c.args.x c.args.y _ c.requires.0 c.requires.1 c.requires.2, unlike_is _ c.if-x-y.true, top)

pub is_high-requires : goal.is_high-requires
is_high-requires c =
    let counts : c.counted_exponent-top.result ≡ counted c.args.x.number.exponent = search rules in
    let top = exponent_told c.args.x.number c.args.x.limbs.now _ counts in
    top_modest _ _ _ _ (level_held c.args.x c.args.y _ c.requires.0 c.requires.1 c.requires.2) top

pub round_whole-requires : goal.round_whole-requires
round_whole-requires c =
    let counts : c.counted_exponent-top.result ≡ counted c.args.x.number.exponent = search rules in
    let top = exponent_told c.args.x.number c.args.x.limbs.now _ counts in
    let a = level_held c.args.x c.args.y _ c.requires.0 c.requires.1 c.requires.2 in
    asks c.args.mode c.args.p _ _ _ _ _ _ (sum_stands c.args.p c.args.x.number c.args.x.limbs.now c.args.y.number c.args.y.limbs.now c.args.target.now _ c.requires.3 a top (not_true _ c.if-x-y.false) (sym c.is_high.ensures ∙ c.if-is_high.false) c.sum-carry.ensures (λ i. (c.slice_known-2-1.given i).fits))

pub returns : goal.returns
returns c =
    let counts : c.counted_exponent-top.result ≡ counted c.args.x.number.exponent = search rules in
    let top = exponent_told c.args.x.number c.args.x.limbs.now _ counts in
    let a = level_held c.args.x c.args.y _ c.requires.0 c.requires.1 c.requires.2 in
    (c.round_whole.auto.target ∙ c.sum-carry.auto.target, c.round_whole.ensures.2 _ _ (sum_stands c.args.p c.args.x.number c.args.x.limbs.now c.args.y.number c.args.y.limbs.now c.args.target.now _ c.requires.3 a top (not_true _ c.if-x-y.false) (sym c.is_high.ensures ∙ c.if-is_high.false) c.sum-carry.ensures (λ i. (c.slice_known-2-1.given i).fits)) (sign_is c.args.x.number c.args.x.limbs.now))
