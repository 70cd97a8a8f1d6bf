-- `descent::prompt::fill` is right since the columns of both operands, or of the one there is, are added or subtracted at once. Assumes nothing.
use Rattle.descent.proofs.AtOnce.{at_leap, at_none, within_first, within_second, last_place, filled_alone, filled_sum, filled_difference, some_of}
use Rattle.descent.proofs.prompt.fill.Goals as goal

pub leap_single-requires : goal.leap_single-requires
leap_single-requires c = (at_none _ c.args.first.now c.args.second.now _ _ c.requires.0 c.requires.1 (c.requires.0.alone c.if-n-eq0.true), within_first _ c.args.first.now c.args.second.now _ _ c.requires.0 c.requires.1)

pub returns-then-n-eq0 : goal.returns-then-n-eq0
returns-then-n-eq0 c = λ x y course pair_is first_is second_is. filled_alone x y _ _ course _ pair_is _ (last_place _ c.args.first.now c.args.second.now _ _ c.requires.0 c.requires.1) _ _ _ _ c.if-n-eq0.true (c.requires.0.alone c.if-n-eq0.true) first_is c.leap_single.ensures

pub leap_sum-requires : goal.leap_sum-requires
leap_sum-requires c = (at_none _ c.args.first.now c.args.second.now _ _ c.requires.0 c.requires.1 c.if-pair.true, within_first _ c.args.first.now c.args.second.now _ _ c.requires.0 c.requires.1, within_second _ c.args.first.now c.args.second.now _ _ c.requires.0 c.requires.1 (some_of _ c.if-n-eq0.false))

pub returns-then-pair : goal.returns-then-pair
returns-then-pair c = λ x y course pair_is first_is second_is. filled_sum x y _ _ course _ pair_is _ (last_place _ c.args.first.now c.args.second.now _ _ c.requires.0 c.requires.1) _ _ _ _ _ (some_of _ c.if-n-eq0.false) first_is second_is c.if-pair.true c.leap_sum.ensures

pub leap_difference-requires : goal.leap_difference-requires
leap_difference-requires c = (at_leap _ c.args.first.now c.args.second.now _ _ c.requires.0 c.requires.1, within_first _ c.args.first.now c.args.second.now _ _ c.requires.0 c.requires.1, within_second _ c.args.first.now c.args.second.now _ _ c.requires.0 c.requires.1 (some_of _ c.if-n-eq0.false))

pub returns : goal.returns
returns c = λ x y course pair_is first_is second_is. filled_difference x y _ _ course _ pair_is _ (last_place _ c.args.first.now c.args.second.now _ _ c.requires.0 c.requires.1) _ _ _ _ _ (some_of _ c.if-n-eq0.false) first_is second_is c.requires.0.some c.if-pair.false c.leap_difference.ensures
