-- `report::used`: none where the columns end above the operand, else the limbs reached, and no more than there are. Assumes nothing.
use native.Mathlib.Omega.{arith}
use Rattle.reports.proofs.Counts.{used_none, used_some, used_all}
use Rattle.reports.proofs.report.used.Goals as goal

pub returns-then-digits-gap : goal.returns-then-digits-gap
returns-then-digits-gap c = used_none _ _ _ (omega arith)

pub returns-then-n-most : goal.returns-then-n-most
returns-then-n-most c = used_some _ _ _ (omega arith) (omega arith)

pub returns-else-n-most : goal.returns-else-n-most
returns-else-n-most c = used_all _ _ _ (omega arith) (omega arith)
