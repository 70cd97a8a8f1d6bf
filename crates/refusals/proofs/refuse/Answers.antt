-- `refusals::refuse`: the tests of the definition, in its order. Assumes nothing.
use Rattle.refusals.proofs.Places.{pair_refusal_lem}
use Rattle.refusals.proofs.refuse.Goals as goal

pub returns : goal.returns
returns c = pair_refusal_lem _ _ _ _ _ c.first_refusal.ensures c.judge.ensures c.judge-2.ensures c.judge_target-target.ensures
