-- `aligned::level::subtract_lower_under` is right since what the lower limbs leave is all that there is of the difference, a zero or a limb that is rounded once. Assumes nothing.
use mathlib.Core.Path.{refl, ◌∙◌}
use lib.ListN.{length-set}
use Rattle.aligned.proofs.LowerLimbs.{apart, unit_room, lower_fit, zero_told, difference_told}
use borrow.Author.Rules.{rules}
use Rattle.aligned.proofs.level.subtract_lower_under.Goals as goal

pub overflow_sub-d : goal.overflow_sub-d
overflow_sub-d c = let g = c.args in apart g.u g.v _ refl c.either.ensures c.either-2.ensures

pub returns-then-d-eq0 : goal.returns-then-d-eq0
returns-then-d-eq0 c =
    let g = c.args in
    (search rules, λ x y l e. zero_told g.mode g.p g.top g.u g.v g.target.now c.requires.0 c.requires.1 _ refl c.either.ensures c.either-2.ensures g.negative x y l e c.if-d-eq0.true c.zero_sign.ensures refl)

pub overflow_sub-top : goal.overflow_sub-top
overflow_sub-top c = let o = c.requires.2 in unit_room o.first o.second _ _ _ o.lower

pub round_fit-placed-requires : goal.round_fit-placed-requires
round_fit-placed-requires c =
    let g = c.args in
    lower_fit g.mode g.p g.top g.u g.v g.target.now c.requires.0 c.requires.1 _ refl c.either.ensures c.either-2.ensures c.requires.2 c.if-d-eq0.false

pub shape_of-target : goal.shape_of-target
shape_of-target c = c.round_fit-placed.auto.target ∙ length-set c.args.target.now 0 _

pub returns : goal.returns
returns c = rw c.by_fields.ensures (
    let g = c.args in
    let r = c.round_fit-placed in
    (c.round_fit-placed.auto.target ∙ length-set g.target.now 0 _, λ x y l e. difference_told g.mode g.p g.top g.u g.v g.target.now c.requires.0 c.requires.1 _ refl c.either.ensures c.either-2.ensures g.negative x y l e c.if-d-eq0.false r.ensures.value r.ensures.target_after))
