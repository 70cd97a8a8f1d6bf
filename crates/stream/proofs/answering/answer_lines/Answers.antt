-- `stream::answer_lines`: line after line, and then the sum of what they hold. Assumes nothing.
use mathlib.Core.Path.{refl, sym}
use native.Mathlib.Omega.{arith}
use Rattle.std.proofs.lemmas.Result.{err_from_is_err_and}
use Rattle.checks.specs.declared.Place.TheVariants.{First, Second}
use Rattle.numbers.specs.Limits.{most_precision, limbs_for}
use Rattle.desklines.specs.Written.{most_limbs}
use Rattle.stream.proofs.Groups.{most_is, refused_first, refused_second, refused_third, part_formed, part_answered}
use Rattle.stream.proofs.Numbers.{number_held}
use Rattle.stream.proofs.answering.answer_lines.Goals as goal

pub read_number-requires : goal.read_number-requires
unfolding most_limbs limbs_for most_precision
read_number-requires c = refl

pub read_number-requires-2 : goal.read_number-requires-2
unfolding most_limbs limbs_for most_precision
read_number-requires-2 c = refl

pub returns-in_err-x : goal.returns-in_err-x
returns-in_err-x c = let p = err_from_is_err_and c.from_residual.result c.from_residual.ensures.1 in rw (p.1, p.2) (refused_first _ _ _ _ c.in_err-x.ensures, refl)

pub returns-in_err-y : goal.returns-in_err-y
returns-in_err-y c =
    let p = err_from_is_err_and c.from_residual-in_err-y.result c.from_residual-in_err-y.ensures.1 in
    rw (p.1, p.2) (refused_second _ _ _ c.in_ok-x.ensures.refusal _ c.in_err-y.ensures, refl)

pub returns-in_err-request : goal.returns-in_err-request
returns-in_err-request c =
    let p = err_from_is_err_and c.from_residual-in_err-request.result c.from_residual-in_err-request.ensures.1 in
    rw (p.1, p.2) (refused_third _ _ _ c.in_ok-x.ensures.refusal c.in_ok-y.ensures.refusal _ c.in_err-request.ensures, refl)

pub slice_bounds-first_operand-end : goal.slice_bounds-first_operand-end
slice_bounds-first_operand-end c = omega (arith, c.limb_count-n.ensures, most_is)

pub slice_bounds-second_operand-end : goal.slice_bounds-second_operand-end
slice_bounds-second_operand-end c = omega (arith, c.limb_count-m.ensures, most_is)

pub slice_bounds-target-end : goal.slice_bounds-target-end
slice_bounds-target-end c = omega (arith, c.limb_count-k.ensures, most_is)

pub put_sum-requires : goal.put_sum-requires
put_sum-requires c = (c.requires, part_formed _ _ _ _ _ _ _ _ _ c.limb_count-k.ensures (sym most_is) c.sum-s.ensures c.sum-s.auto.target)

pub returns : goal.returns
returns c =
    part_answered _ _ _ _ _ _ _ _ _ c.limb_count-k.ensures (sym most_is) c.sum-s.ensures c.sum-s.auto.target _ _ _ c.put_sum.ensures _ _ _ (number_held First _ _ _ _ c.in_ok-x.ensures c.limb_count-n.ensures) (number_held Second _ _ _ _ c.in_ok-y.ensures c.limb_count-m.ensures) c.in_ok-request.ensures
