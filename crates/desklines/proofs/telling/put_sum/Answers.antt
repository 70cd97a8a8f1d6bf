-- `desklines::put_sum`: a refused sum has its refusal; every other is of good form. Assumes nothing.
use Rattle.desklines.proofs.Tellings.{refused_told, result_told}
use Rattle.desklines.proofs.telling.put_sum.Goals as goal

pub put_result-requires : goal.put_result-requires
put_result-requires c = (c.requires.0, rw c.in-Ok.is at c.requires.1)

pub returns-in-Ok : goal.returns-in-Ok
returns-in-Ok c = result_told _ _ _ _ _ _ c.in-Ok.is c.put_result.ensures

pub put_refusal-requires : goal.put_refusal-requires
put_refusal-requires c = c.requires.0

pub returns-in-Err : goal.returns-in-Err
returns-in-Err c = refused_told _ _ _ _ _ _ c.in-Err.is c.put_refusal.ensures
