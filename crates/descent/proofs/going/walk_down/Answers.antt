-- `descent::going::walk_down` is right since it reads columns at once only where they fix nothing before the last. Assumes nothing.
use Rattle.descent.proofs.AtOnce.{sighted}
use Rattle.descent.proofs.going.walk_down.Goals as goal

pub is_prompt-requires : goal.is_prompt-requires
is_prompt-requires c = sighted _ _ _ _ _ _ c.args.target.now c.requires.0 c.requires.1

pub walk_promptly-requires : goal.walk_promptly-requires
walk_promptly-requires c = (c.requires.0, c.requires.1, c.is_prompt.ensures c.if-is_prompt.true)

pub returns-then-is_prompt : goal.returns-then-is_prompt
returns-then-is_prompt c = λ o x y course pair_is first_is second_is way_is. c.walk_promptly.ensures o x y (record { pair_is = pair_is; first_is = first_is; second_is = second_is; way_is = way_is }) course

pub returns-else-is_prompt : goal.returns-else-is_prompt
returns-else-is_prompt c = λ o x y course pair_is first_is second_is way_is. c.walk_slowly.ensures o x y (record { pair_is = pair_is; first_is = first_is; second_is = second_is; way_is = way_is }) course
